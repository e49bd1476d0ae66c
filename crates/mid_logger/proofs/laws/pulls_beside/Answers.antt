use Rattle.mid_logger.proofs.BesideSteps.{pulls_beside}
use Rattle.mid_logger.proofs.laws.pulls_beside.Goals as goal

pub returns : goal.returns
returns c = pulls_beside
