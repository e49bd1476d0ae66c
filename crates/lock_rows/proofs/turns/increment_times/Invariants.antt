use Rattle.std.proofs.Common.{◌≡◌, length, None}
use Rattle.turn_lock.specs.Passes.{number_of, own_entries, held_by, IsOf}
use Rattle.lock_rows.proofs.turns.increment_times.Given as goal

abbrev pub invariant-loop-done : goal.invariant-loop-done
invariant-loop-done g l = IsOf l.lock l.pass × ((held_by l.pass ≡ None) × ((number_of l.pass ≡ number_of l.fn.pass) × (length (own_entries l.pass) ≡ l.done)))
