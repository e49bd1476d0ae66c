use Rattle.mid_logger.proofs.EndSteps.{called_off}
use Rattle.mid_logger.proofs.Keeping.{abort_changes}
use Rattle.mid_logger.proofs.laws.aborts_kept.Goals as goal

pub returns : goal.returns
returns c = record { keep = called_off; change = abort_changes }
