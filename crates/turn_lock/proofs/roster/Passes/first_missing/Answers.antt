use Rattle.std.proofs.Common.{arith, subst, sym, refl}
use Rattle.std.specs.Prelude.{Contains}
use mathlib.Core.Logic.{dite}
use native.Mathlib.Decide.{ℕ_discrete}
use Rattle.turn_lock.specs.Roster.{numbers_of}
use Rattle.turn_lock.proofs.roster.Passes.first_missing.Goals as goal

pub loop-number-preserved : goal.loop-number-preserved
loop-number-preserved g c = λ k l. dite (ℕ_discrete k c.loop-number.number) (λ e. subst (Contains (numbers_of c.args.self.now)) (sym e) (c.if-not-contains.ensures.0 refl)) (λ other. c.loop-number.invariant k (omega arith))
