use Rattle.turn_lock.proofs.Missing.{Misses}
use Rattle.turn_lock.proofs.lock.Turns.spin.Given as goal

abbrev pub invariant-loop : goal.invariant-loop
invariant-loop g l = Misses l.self l.fn.pass l.pass
