use Rattle.std.proofs.Common.{◌≡◌, None, All}
use Rattle.daq_mem.specs.MemSeen.{free_slots}
use Rattle.daq_mem.proofs.slots.Slots.new.Given as goal

abbrev pub invariant-loop : goal.invariant-loop
invariant-loop l = record {
  unnamed : All (λ slot. slot.name ≡ None) l.slots.items;
  sized : All (λ slot. slot.bytes.room ≡ l.room) l.slots.items;
  free : free_slots l.slots.items ≡ l.counter;
}
