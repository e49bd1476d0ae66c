use Rattle.std.proofs.Common.{◌≡◌, take}
use Rattle.daq_mem.specs.MemSeen.{free_slots}
use Rattle.daq_mem.proofs.slots.Slots.free_place.Given as goal

abbrev pub invariant-loop-place : goal.invariant-loop-place
invariant-loop-place l = free_slots (take l.place l.self.slots.items) ≡ 0
