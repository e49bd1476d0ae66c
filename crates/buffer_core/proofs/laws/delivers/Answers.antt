use Rattle.buffer_core.proofs.Delivering.{history_delivers}
use Rattle.buffer_core.proofs.laws.delivers.Goals as goal

pub returns : goal.returns
returns c = history_delivers
