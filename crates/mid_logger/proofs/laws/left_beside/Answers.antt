use Rattle.mid_logger.proofs.LeftSteps.{left_beside}
use Rattle.mid_logger.proofs.laws.left_beside.Goals as goal

pub returns : goal.returns
returns c = left_beside
