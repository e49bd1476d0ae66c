use Rattle.std.proofs.Common.{◌≡◌, ◌+◌, drop}
use Rattle.odb_watch.specs.Slots.{free_watch}
use Rattle.odb_watch.proofs.slots.free_slot.Given as goal

abbrev pub invariant-loop-i : goal.invariant-loop-i
invariant-loop-i l = free_watch l.slots ≡ l.i + free_watch (drop l.i l.slots)
