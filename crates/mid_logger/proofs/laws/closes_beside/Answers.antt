use Rattle.mid_logger.proofs.BesideSteps.{closes_beside}
use Rattle.mid_logger.proofs.laws.closes_beside.Goals as goal

pub returns : goal.returns
returns c = closes_beside
