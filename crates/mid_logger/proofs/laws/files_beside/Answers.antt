use Rattle.mid_logger.proofs.StageSteps.{files_beside}
use Rattle.mid_logger.proofs.laws.files_beside.Goals as goal

pub returns : goal.returns
returns c = files_beside
