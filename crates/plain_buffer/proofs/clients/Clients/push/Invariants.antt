use Rattle.std.proofs.Common.{◌≡◌, ◌++◌, take, drop}
use Rattle.buffer_core.specs.Slots.{change_all}
use Rattle.buffer_core.specs.Calls.{pushed}
use Rattle.plain_buffer.proofs.clients.Clients.push.Given as goal

abbrev pub invariant-loop-slot : goal.invariant-loop-slot
invariant-loop-slot l = l.slot-items ≡ change_all (pushed l.first) (take l.slot-index l.initial.slot-items) ++ drop l.slot-index l.initial.slot-items
