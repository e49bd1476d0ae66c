use Rattle.mid_logger.proofs.Keeping.{open_changes, opening_kept}
use Rattle.mid_logger.proofs.StageSteps.{made_there}
use Rattle.mid_logger.proofs.OpenAlone.{opens_alone}
use Rattle.mid_logger.proofs.laws.opens_kept.Goals as goal

pub returns : goal.returns
returns c = record { keep = opening_kept; change = open_changes; there = made_there; alone = opens_alone }
