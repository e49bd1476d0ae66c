use Rattle.turn_lock.proofs.Endings.{Absorbing}
use Rattle.turn_lock.proofs.lock.Turns.absorb.Given as goal

abbrev pub invariant-loop-pass : goal.invariant-loop-pass
invariant-loop-pass g l = Absorbing l.self l.fn.zero l.zero l.fn.items.items l.items.items

abbrev pub decreases-loop-pass : goal.decreases-loop-pass
decreases-loop-pass g l = goal.left-loop-pass g l
