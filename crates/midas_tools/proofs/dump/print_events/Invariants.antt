-- What was read so far was printed, and the file goes on.
use Rattle.std.proofs.Common.{◌≡◌, ◌≤◌, ◌-◌, ◌^◌}
use Rattle.event.specs.Events.{event_limit}
use Rattle.midas_tools.specs.Dumps.{Printing}
use Rattle.midas_tools.proofs.dump.print_events.Given as goal

abbrev pub invariant-events : goal.invariant-events
invariant-events g l = record {
  printing : Printing (g.S.Source.told l.fn.reader.source).left (g.S.Source.told l.reader.source).left l.reader.progress (g.O.Sink.told l.fn.out).written (g.O.Sink.told l.out).written l.page;
  room : event_limit ≤ l.event.room;
  origin : (g.S.Source.told l.reader.source).origin ≡ (g.S.Source.told l.fn.reader.source).origin;
  source : (g.S.Source.told l.reader.source).faults ≡ (g.S.Source.told l.fn.reader.source).faults;
  sink : (g.O.Sink.told l.out).faults ≡ (g.O.Sink.told l.fn.out).faults;
}

abbrev pub decreases-events : goal.decreases-events
decreases-events g l = 2 ^ 62 - l.reader.progress.at
