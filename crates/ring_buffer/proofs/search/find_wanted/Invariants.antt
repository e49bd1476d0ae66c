use Rattle.ring_buffer.specs.Pointers.{clients_of}
use Rattle.ring_buffer.proofs.Walking.{IsSought}
use Rattle.ring_buffer.proofs.search.find_wanted.Given as goal

abbrev pub invariant-loop-place : goal.invariant-loop-place
invariant-loop-place l = IsSought l.initial.ring.bytes (clients_of l.clients) l.client l.fn.from l.off l.place l.fn.end l.initial.ring l.ring
