use Rattle.buffer_core.proofs.Ordering.{history_ordered}
use Rattle.buffer_core.proofs.laws.ordered.Goals as goal

pub returns : goal.returns
returns c = history_ordered
