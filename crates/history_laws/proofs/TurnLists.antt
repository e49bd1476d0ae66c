-- The turns of a client.
use Rattle.std.specs.Prelude.{◌≡◌, ◌≢◌, ℕ, ◌<◌, ◌≤◌, Bool, true, is_some, if◌then◌else◌, List, [], ◌∷◌, Option, Some, None, refl}
use Rattle.std.proofs.Common.{ap, ◌∙◌, subst, arith, inl, inr}
use Rattle.daq_types.specs.declared.runs.Order.{Order}
use Rattle.daq_types.specs.declared.runs.Transition.{Transition}
use Rattle.daq_types.specs.declared.runs.Transition.TheVariants.{Start, Stop, Pause, Resume, StartAbort}
use Rattle.member_model.specs.RunEngines.{Answer}
use Rattle.member_model.specs.Turns.{MemberTurn, HasTurn, HasAnswer, NoneOpen, current_run, HasNoStart, IsOfRun, IsNextTurn}
use Rattle.member_model.specs.TurnCalls.{turn_told, turn_answered}

-- Turns with low numbers.

abbrev pub HaveUpTo : (start : ℕ) → List MemberTurn → Type 0
HaveUpTo start ts = (t : MemberTurn) → HasTurn ts t → t.order.start ≤ start

abbrev pub HaveBelow : (start : ℕ) → List MemberTurn → Type 0
HaveBelow start ts = (t : MemberTurn) → HasTurn ts t → t.order.start < start

pub up_to_more : (start more : ℕ) (ts : List MemberTurn) → start ≤ more → HaveUpTo start ts → HaveUpTo more ts
up_to_more start more ts le low t has = omega (arith, le, low t has)

pub up_to_push : (start : ℕ) (t : MemberTurn) (ts : List MemberTurn) → t.order.start ≡ start → HaveUpTo start ts → HaveUpTo start (t ∷ ts)
up_to_push start t ts is low v (inl same) = let e : t.order.start ≡ v.order.start = ap (λ (x : MemberTurn). x.order.start) same in omega (arith, e, is)
up_to_push start t ts is low v (inr before) = low v before

-- An answer changes no turn's transition and number.

abbrev pub with_answer : MemberTurn → Answer → MemberTurn
with_answer t answer = record t { answer = Some answer }

same_turns : (P : Transition → ℕ → Type 0) (t : MemberTurn) (ts : List MemberTurn) (answer : Answer) → ((v : MemberTurn) → HasTurn (t ∷ ts) v → P v.transition v.order.start) → (v : MemberTurn) → HasTurn (with_answer t answer ∷ ts) v → P v.transition v.order.start
same_turns P t ts answer all v (inl same) = subst (λ (x : MemberTurn). P x.transition x.order.start) same (all t (inl refl))
same_turns P t ts answer all v (inr before) = all v (inr before)

pub up_to_answered : (start : ℕ) (t : MemberTurn) (ts : List MemberTurn) (answer : Answer) → HaveUpTo start (t ∷ ts) → HaveUpTo start (with_answer t answer ∷ ts)
up_to_answered start t ts answer low = same_turns (λ (k : Transition) (n : ℕ). n ≤ start) t ts answer low

of_run_answered : (start : ℕ) (t : MemberTurn) (ts : List MemberTurn) (answer : Answer) → IsOfRun start (t ∷ ts) → IsOfRun start (with_answer t answer ∷ ts)
of_run_answered start t ts answer (inl on) = inl on
of_run_answered start t ts answer (inr none) = inr (same_turns (λ (k : Transition) (n : ℕ). k ≡ Start → n ≢ start) t ts answer none)

-- What is so of the client's turns while turns of a transition are given: `come` says that its own is still to come.

abbrev pub Phase : Transition → (come : Type 0) → (start : ℕ) → List MemberTurn → Type 0
Phase Start come start ts = (start ≢ 0) × IsOfRun start ts × (come → HaveBelow start ts)
Phase Stop come start ts = come → IsOfRun start ts
Phase Pause come start ts = IsOfRun start ts
Phase Resume come start ts = IsOfRun start ts
Phase StartAbort come start ts = come → IsOfRun start ts

pub phase_weaker : (k : Transition) (come less : Type 0) (start : ℕ) (ts : List MemberTurn) → (less → come) → Phase k come start ts → Phase k less start ts
phase_weaker Start come less start ts fewer phase = (phase.0, phase.1, λ is. phase.2 (fewer is))
phase_weaker Stop come less start ts fewer phase = λ is. phase (fewer is)
phase_weaker Pause come less start ts fewer phase = phase
phase_weaker Resume come less start ts fewer phase = phase
phase_weaker StartAbort come less start ts fewer phase = λ is. phase (fewer is)

pub phase_answered : (k : Transition) (come : Type 0) (start : ℕ) (t : MemberTurn) (ts : List MemberTurn) (answer : Answer) → Phase k come start (t ∷ ts) → Phase k come start (with_answer t answer ∷ ts)
phase_answered Start come start t ts answer phase = (phase.0, of_run_answered start t ts answer phase.1, λ is. same_turns (λ (k : Transition) (n : ℕ). n < start) t ts answer (phase.2 is))
phase_answered Stop come start t ts answer phase = λ is. of_run_answered start t ts answer (phase is)
phase_answered Pause come start t ts answer phase = of_run_answered start t ts answer phase
phase_answered Resume come start t ts answer phase = of_run_answered start t ts answer phase
phase_answered StartAbort come start t ts answer phase = λ is. of_run_answered start t ts answer (phase is)

-- its turn may come
pub phase_next : (k : Transition) (come : Type 0) (start : ℕ) (ts : List MemberTurn) → come → Phase k come start ts → IsNextTurn k start ts
phase_next Start come start ts is phase = (phase.0, λ t has same. omega (arith, phase.2 is t has, same))
phase_next Stop come start ts is phase = phase is
phase_next Pause come start ts is phase = phase
phase_next Resume come start ts is phase = phase
phase_next StartAbort come start ts is phase = phase is

not_start_push : (start : ℕ) (t : MemberTurn) (ts : List MemberTurn) → t.transition ≢ Start → current_run (t ∷ ts) ≡ current_run ts → IsOfRun start ts → IsOfRun start (t ∷ ts)
not_start_push start t ts other same (inl on) = inl (same ∙ on)
not_start_push start t ts other same (inr none) = inr never
  where
    never : HasNoStart start (t ∷ ts)
    never v (inl is) = λ starts. absurd (other (ap (λ (x : MemberTurn). x.transition) is ∙ starts))
    never v (inr before) = none v before

-- and behind it, it is no more to come
pub phase_push : (k : Transition) (come gone : Type 0) (start : ℕ) (ts : List MemberTurn) (order : Order) (dump : Option (List ℕ)) (answer : Option Answer) → order.start ≡ start → (gone → ⊥) → Phase k come start ts
    → Phase k gone start (record { transition = k; order = order; dump = dump; answer = answer } ∷ ts)
phase_push Start come gone start ts order dump answer is never phase = (phase.0, inl (ap (λ (n : ℕ). Some n) is), λ g. absurd (never g))
phase_push Stop come gone start ts order dump answer is never phase = λ g. absurd (never g)
phase_push Pause come gone start ts order dump answer is never phase = not_start_push start (record { transition = Pause; order = order; dump = dump; answer = answer }) ts (λ (e : Pause ≡ Start). cc (e)) refl phase
phase_push Resume come gone start ts order dump answer is never phase = not_start_push start (record { transition = Resume; order = order; dump = dump; answer = answer }) ts (λ (e : Resume ≡ Start). cc (e)) refl phase
phase_push StartAbort come gone start ts order dump answer is never phase = λ g. absurd (never g)

-- The latest turn.

answered_is : (o : Option Answer) → HasAnswer o → is_some o ≡ true
answered_is None is = absurd is
answered_is (Some answer) is = refl

pub told_new : (ts : List MemberTurn) (t : MemberTurn) → NoneOpen ts → turn_told ts t ≡ t ∷ ts
told_new [] t none = refl
told_new (u ∷ us) t none = ap (λ (b : Bool). if b then t ∷ (u ∷ us) else u ∷ us) (answered_is u.answer none)

pub answered_none : (ts : List MemberTurn) (answer : Answer) → NoneOpen ts → turn_answered ts answer ≡ ts
answered_none [] answer none = refl
answered_none (u ∷ us) answer none = ap (λ (b : Bool). if b then u ∷ us else with_answer u answer ∷ us) (answered_is u.answer none)
