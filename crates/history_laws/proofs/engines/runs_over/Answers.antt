use Rattle.history_laws.proofs.RunsOver.{runs_are_over}
use Rattle.history_laws.proofs.engines.runs_over.Goals as goal

pub returns : goal.returns
returns c = runs_are_over c.called_in_order.ensures
