use Rattle.mid_logger.proofs.EndSteps.{settled, left_by}
use Rattle.mid_logger.proofs.Keeping.{close_changes, close_there}
use Rattle.mid_logger.proofs.laws.closes_kept.Goals as goal

pub returns : goal.returns
returns c = record {
  keep = λ spec client stage state time dump head own got old new faults later closes stands. (
    settled spec client stage state time dump head own got old new faults later closes stands,
    left_by spec client stage state time dump head own got old new faults later closes stands,
  );
  change = close_changes;
  know = close_there;
}
