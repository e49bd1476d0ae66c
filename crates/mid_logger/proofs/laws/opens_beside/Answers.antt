use Rattle.mid_logger.proofs.OpenBeside.{opens_beside}
use Rattle.mid_logger.proofs.laws.opens_beside.Goals as goal

pub returns : goal.returns
returns c = opens_beside
