use Rattle.history_laws.proofs.Completed.{called_are_told}
use Rattle.history_laws.proofs.engines.called_told.Goals as goal

pub returns : goal.returns
returns c = called_are_told c.called_in_order.ensures
