-- What was printed before is printed with the events that were read here, and they lie further on.
use Rattle.std.proofs.Common.{◌≡◌, ◌≤◌, ◌-◌, ◌^◌, ℕ, List, Option}
use Rattle.midas_tools.specs.Dumps.{Printing}
use Rattle.midas_tools.proofs.dump.print_at_hand.Given as goal

abbrev pub invariant-loop-header : goal.invariant-loop-header
invariant-loop-header g l = record {
  printing : (first told_first : Option (List ℕ)) → Printing first (g.S.Source.told l.fn.reader.source).left l.fn.reader.progress told_first (g.O.Sink.told l.fn.out).written l.fn.page → Printing first (g.S.Source.told l.reader.source).left l.reader.progress told_first (g.O.Sink.told l.out).written l.page;
  origin : (g.S.Source.told l.reader.source).origin ≡ (g.S.Source.told l.fn.reader.source).origin;
  source : (g.S.Source.told l.reader.source).faults ≡ (g.S.Source.told l.fn.reader.source).faults;
  sink : (g.O.Sink.told l.out).faults ≡ (g.O.Sink.told l.fn.out).faults;
  onward : l.fn.reader.progress.at ≤ l.reader.progress.at;
}

abbrev pub decreases-loop-header : goal.decreases-loop-header
decreases-loop-header g l = 2 ^ 62 - l.reader.progress.at
