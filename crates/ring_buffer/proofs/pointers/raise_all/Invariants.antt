use Rattle.std.proofs.Common.{◌≡◌, ◌++◌, take, drop}
use Rattle.buffer_core.specs.Slots.{change_all}
use Rattle.ring_buffer.specs.Pointers.{raised}
use Rattle.ring_buffer.proofs.pointers.raise_all.Given as goal

abbrev pub invariant-loop-number : goal.invariant-loop-number
invariant-loop-number l = l.slots ≡ change_all (raised l.off l.place) (take l.number l.initial.slots) ++ drop l.number l.initial.slots
