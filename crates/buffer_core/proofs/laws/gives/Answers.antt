use Rattle.buffer_core.proofs.Continuing.{history_gives}
use Rattle.buffer_core.proofs.laws.gives.Goals as goal

pub returns : goal.returns
returns c = history_gives
