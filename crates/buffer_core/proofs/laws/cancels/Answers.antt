use Rattle.buffer_core.proofs.Continuing.{history_cancels}
use Rattle.buffer_core.proofs.laws.cancels.Goals as goal

pub returns : goal.returns
returns c = history_cancels
