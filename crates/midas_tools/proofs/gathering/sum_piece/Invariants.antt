-- The events that were given were taken behind those before, and no fault was met.
use Rattle.std.proofs.Common.{◌≡◌, ◌≤◌, ◌-◌, ◌^◌, List, ◌++◌, length}
use Rattle.daq_types.specs.declared.events.Event.{Event}
use Rattle.event.specs.Events.{all_encoded, event_limit}
use Rattle.midas_tools.specs.Summaries.{SumsSome}
use Rattle.midas_tools.proofs.gathering.sum_piece.Given as goal

abbrev pub invariant-events : goal.invariant-events
invariant-events g l = record {
  so_far : (events : List Event) → g.T.EventTaker.has_taken l.fn.summary events → length (all_encoded events) ≤ l.before.bytes
      → SumsSome (λ more. g.T.EventTaker.has_taken l.summary (events ++ more)) l.before.bytes (g.S.Source.told l.fn.reader.source).left (g.S.Source.told l.reader.source).left l.reader.progress;
  enough : event_limit ≤ l.room.room;
  room : l.room.room ≡ l.fn.room.room;
  origin : (g.S.Source.told l.reader.source).origin ≡ (g.S.Source.told l.fn.reader.source).origin;
  faults : (g.S.Source.told l.reader.source).faults ≡ (g.S.Source.told l.fn.reader.source).faults;
}

abbrev pub decreases-events : goal.decreases-events
decreases-events g l = 2 ^ 62 - l.reader.progress.at
