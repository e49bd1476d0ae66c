use Rattle.history_laws.proofs.CalledOff.{refused_are_called_off}
use Rattle.history_laws.proofs.engines.called_off.Goals as goal

pub returns : goal.returns
returns c = refused_are_called_off c.called_in_order.ensures
