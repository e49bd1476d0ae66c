-- The files up to here were gathered, and no call on them failed.
use Rattle.std.proofs.Common.{◌≡◌, ◌≤◌, take}
use Rattle.daq_io.specs.Seen.{Same}
use Rattle.event.specs.Events.{event_limit}
use Rattle.midas_tools.specs.Gathering.{GathersAll}
use Rattle.midas_tools.proofs.gathering.gather_all.Given as goal

abbrev pub invariant-loop-at : goal.invariant-loop-at
invariant-loop-at g l = record {
  gathers : GathersAll (g.T.EventTaker.has_taken l.gathered.summary) (g.F.Files.told l.fn.files).seen (take l.at l.names) l.gathered.extent;
  room : event_limit ≤ l.gathered.room.room;
  faults : (g.F.Files.told l.files).faults ≡ (g.F.Files.told l.fn.files).faults;
  first : l.at ≡ 0 → (g.F.Files.told l.files).clashes ≡ (g.F.Files.told l.fn.files).clashes;
  same : Same (g.F.Files.told l.fn.files).seen (g.F.Files.told l.files).seen;
}
