use Rattle.mid_logger.proofs.BesideSteps.{aborts_beside}
use Rattle.mid_logger.proofs.laws.aborts_beside.Goals as goal

pub returns : goal.returns
returns c = aborts_beside
