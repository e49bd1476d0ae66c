use Rattle.mid_logger.proofs.PullSteps.{pull_kept}
use Rattle.mid_logger.proofs.PullChanges.{pull_changes}
use Rattle.mid_logger.proofs.Keeping.{pull_knows}
use Rattle.mid_logger.proofs.laws.pulls_kept.Goals as goal

pub returns : goal.returns
returns c = record { keep = pull_kept; change = pull_changes; know = pull_knows }
