use Rattle.ring_buffer.specs.Pointers.{clients_of}
use Rattle.ring_buffer.proofs.Walking.{IsWalked}
use Rattle.ring_buffer.proofs.search.find_way.Given as goal

abbrev pub invariant-loop-place : goal.invariant-loop-place
invariant-loop-place l = IsWalked l.initial.ring.bytes (clients_of l.clients) l.fn.from l.off l.place l.fn.end l.slot l.initial.ring l.ring
