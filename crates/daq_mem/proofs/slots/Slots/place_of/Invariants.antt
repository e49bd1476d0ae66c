use Rattle.std.proofs.Common.{◌≡◌, false, take, All}
use Rattle.daq_mem.specs.MemSeen.{has_name}
use Rattle.daq_mem.proofs.slots.Slots.place_of.Given as goal

abbrev pub invariant-loop-place : goal.invariant-loop-place
invariant-loop-place l = All (λ slot. has_name l.name slot.name ≡ false) (take l.place l.self.slots.items)
