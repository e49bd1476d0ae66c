use Rattle.std.proofs.Common.{◌≡◌, None}
use Rattle.turn_lock.specs.Passes.{number_of, held_by, IsOf}
use Rattle.lock_bench.proofs.counter.increment_times.Given as goal

abbrev pub invariant-loop : goal.invariant-loop
invariant-loop g l = IsOf l.lock l.pass × ((held_by l.pass ≡ None) × (number_of l.pass ≡ number_of l.fn.pass))
