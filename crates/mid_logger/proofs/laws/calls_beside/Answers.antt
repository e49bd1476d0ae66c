use Rattle.mid_logger.proofs.StageSteps.{calls_beside}
use Rattle.mid_logger.proofs.laws.calls_beside.Goals as goal

pub returns : goal.returns
returns c = calls_beside
