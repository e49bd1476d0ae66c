-- Turns by what was found of the run that the logger has.
use Rattle.std.specs.Prelude.{◌≡◌, ℕ, Bool, true, false, if◌then◌else◌, Some, None}
use Rattle.std.proofs.Common.{sym, subst, refl}
use Rattle.loggers.specs.Moments.{LoggerMoment}
use Rattle.loggers.specs.Turning.{LoggerTurn, StopsLogger, MarksAll, CallsRunOff, TakesStop, TakesMark, TakesAbort}

pub stop_taken : (of : Bool) (t : LoggerTurn) → true ≡ of → StopsLogger t → TakesStop of t
stop_taken of t is stops = subst (λ (b : Bool). TakesStop b t) is stops

pub mark_taken : (Mark : (start buffer : ℕ) → (a b : LoggerMoment) → Type 0) (of : Bool) (t : LoggerTurn) → true ≡ of → MarksAll Mark t → TakesMark Mark of t
mark_taken Mark of t is marks = subst (λ (b : Bool). TakesMark Mark b t) is marks

pub abort_taken : (of : Bool) (t : LoggerTurn) → of ≡ true → CallsRunOff t → TakesAbort of t
abort_taken of t is calls = subst (λ (b : Bool). TakesAbort b t) (sym is) calls

-- where the number is found, it is of the start, and this one
pub found_of : (of : Bool) (n found : ℕ) → Some found ≡ (if of then Some n else None) → of ≡ true
found_of true n found is = refl
found_of false n found is = absurd (cc (is))

pub found_is : (of : Bool) (n found : ℕ) → Some found ≡ (if of then Some n else None) → found ≡ n
found_is true n found is = cc (is)
found_is false n found is = absurd (cc (is))
