use Rattle.buffer_core.proofs.Continuing.{history_counts}
use Rattle.buffer_core.proofs.laws.counts.Goals as goal

pub returns : goal.returns
returns c = history_counts
