use Rattle.std.proofs.Common.{length}
use Rattle.event_report.specs.Steps.{widened}
use Rattle.event_report.proofs.Sums.{IsSummed}
use Rattle.event_report.proofs.figures.read_narrow.Given as goal

abbrev pub invariant-loop-left : goal.invariant-loop-left
invariant-loop-left l = IsSummed l.kind l.body l.left (widened l.figures)

abbrev pub decreases-loop-left : goal.decreases-loop-left
decreases-loop-left l = length l.left
