use Rattle.std.proofs.Common.{◌≡◌, None, replicate}
use Rattle.plain_buffer.proofs.clients.Clients.new.Given as goal

abbrev pub invariant-loop-number : goal.invariant-loop-number
invariant-loop-number l = l.slots.items ≡ replicate l.number None
