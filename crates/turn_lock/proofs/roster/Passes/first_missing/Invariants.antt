use Rattle.turn_lock.specs.Roster.{numbers_of}
use Rattle.turn_lock.specs.Closing.{AreComplete}
use Rattle.turn_lock.proofs.roster.Passes.first_missing.Given as goal

abbrev pub invariant-loop-number : goal.invariant-loop-number
invariant-loop-number g l = AreComplete (numbers_of l.self) l.number
