-- What was printed, with the lines of the banks that are left, is the same all the time.
use Rattle.std.proofs.Common.{◌≡◌, ◌++◌, length}
use Rattle.midas_tools.specs.Areas.{bank_lines}
use Rattle.midas_tools.specs.Printing.{PrintsSoFar}
use Rattle.midas_tools.proofs.areas.print_banks.Given as goal

abbrev pub invariant-loop-bank : goal.invariant-loop-bank
invariant-loop-bank g l = record {
  prints : PrintsSoFar (g.O.Sink.told l.fn.out).written (g.O.Sink.told l.out).written (l.page ++ bank_lines l.banks.left) (l.fn.page ++ bank_lines l.fn.banks.left);
  sink : (g.O.Sink.told l.out).faults ≡ (g.O.Sink.told l.fn.out).faults;
}

abbrev pub decreases-loop-bank : goal.decreases-loop-bank
decreases-loop-bank g l = length l.banks.left
