use Rattle.std.proofs.Common.{◌≡◌, length, None}
use Rattle.turn_lock.specs.Passes.{number_of, own_entries, held_by, IsOf}
use Rattle.buffer_lock.specs.SharedBuffers.{lock_of}
use Rattle.lock_rows.proofs.buffers.send_times.Given as goal

abbrev pub invariant-loop-done : goal.invariant-loop-done
invariant-loop-done g l = IsOf (lock_of l.shared) l.pass × ((held_by l.pass ≡ None) × ((number_of l.pass ≡ number_of l.fn.pass) × (length (own_entries l.pass) ≡ l.done)))
