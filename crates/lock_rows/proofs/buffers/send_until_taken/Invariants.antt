use Rattle.std.proofs.Common.{◌≡◌, None}
use Rattle.turn_lock.specs.Passes.{held_by, IsOf}
use Rattle.buffer_lock.specs.SharedBuffers.{lock_of}
use Rattle.lock_rows.proofs.buffers.send_until_taken.Given as goal

abbrev pub invariant-loop : goal.invariant-loop
invariant-loop g l = IsOf (lock_of l.shared) l.pass × (held_by l.pass ≡ None)
