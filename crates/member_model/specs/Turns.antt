-- The turns that a member was given, each with what it answered. The latest turn stands first.
use Rattle.std.specs.Prelude.{◌≡◌, ◌≢◌, ℕ, List, [], ◌∷◌, Option, Some, None, ⊤, ◌⊎◌}
use Rattle.daq_types.specs.declared.runs.Order.{Order}
use Rattle.daq_types.specs.declared.runs.Transition.{Transition}
use Rattle.daq_types.specs.declared.runs.Transition.TheVariants.{Start, Stop, Pause, Resume, StartAbort}
use Rattle.member_model.specs.RunEngines.{Answer}
use Rattle.transitions.specs.declared.answers.Answer.TheVariants.{Yes}
use Rattle.transitions.specs.declared.answers.Tally.TheVariants.{Plain}

-- a turn, with the dump that came with it, and its answer, if there is one yet
pub record MemberTurn : Type 0 where
  pub transition : Transition
  pub order : Order
  pub dump : Option (List ℕ)
  pub answer : Option Answer

-- the turn stands among these
abbrev pub HasTurn : List MemberTurn → MemberTurn → Type 0
HasTurn [] t = ⊥
HasTurn (u ∷ us) t = (u ≡ t) ⊎ HasTurn us t

-- a turn of this transition, for the run with this start number
pub record HasTurnOf (turns : List MemberTurn) (transition : Transition) (start : ℕ) (t : MemberTurn) : Type 0 where
  pub stands : HasTurn turns t
  pub is : t.transition ≡ transition
  pub of : t.order.start ≡ start

-- the turn is the start of the run with this number, and was accepted
pub record IsAcceptedStart (turns : List MemberTurn) (start : ℕ) (turn : MemberTurn) : Type 0 where
  pub is_start : HasTurnOf turns Start start turn
  pub accepted : turn.answer ≡ Some (Yes Plain)

abbrev pub HasAnswer : Option Answer → Type 0
HasAnswer None = ⊥
HasAnswer (Some answer) = ⊤

-- the latest turn, if there is one, was answered
abbrev pub NoneOpen : List MemberTurn → Type 0
NoneOpen [] = ⊤
NoneOpen (t ∷ ts) = HasAnswer t.answer

-- the turns, once the latest of them got this answer, if it is one
abbrev pub latest_answered : List MemberTurn → Option Answer → List MemberTurn
latest_answered ts None = ts
latest_answered [] (Some answer) = []
latest_answered (t ∷ ts) (Some answer) = record t { answer = Some answer } ∷ ts

-- What an engine gives a client. A start has a number other than 0 that no turn before it had. Any other turn has the number
-- of the run that is on, unless the client was not called for the start of its run. So a run has one stop or one start-abort,
-- and no turn behind it; and a client that was registered while a run was on gets the other turns of that run alone.

-- the start number of the run that is on behind these turns, if one is: a stop or a start-abort ends it
abbrev pub current_run : List MemberTurn → Option ℕ
current_run [] = None
current_run (t ∷ ts) = run_with t.transition t.order.start (current_run ts)
  where
    run_with : Transition → ℕ → Option ℕ → Option ℕ
    run_with Start start before = Some start
    run_with Stop start before = None
    run_with Pause start before = before
    run_with Resume start before = before
    run_with StartAbort start before = None

-- no turn has this number, which is not 0
abbrev pub IsNewStart : (start : ℕ) → List MemberTurn → Type 0
IsNewStart start ts = (start ≢ 0) × ((t : MemberTurn) → HasTurn ts t → t.order.start ≢ start)

-- no turn is one of a start with this number
abbrev pub HasNoStart : (start : ℕ) → List MemberTurn → Type 0
HasNoStart start ts = (t : MemberTurn) → HasTurn ts t → t.transition ≡ Start → t.order.start ≢ start

-- the run with this number is on, or the client was not called for its start
abbrev pub IsOfRun : (start : ℕ) → List MemberTurn → Type 0
IsOfRun start ts = (current_run ts ≡ Some start) ⊎ HasNoStart start ts

-- behind these turns a turn of this transition and this number may come
abbrev pub IsNextTurn : Transition → (start : ℕ) → List MemberTurn → Type 0
IsNextTurn Start start ts = IsNewStart start ts
IsNextTurn Stop start ts = IsOfRun start ts
IsNextTurn Pause start ts = IsOfRun start ts
IsNextTurn Resume start ts = IsOfRun start ts
IsNextTurn StartAbort start ts = IsOfRun start ts

-- turns as an engine gives them
abbrev pub AreEngineTurns : List MemberTurn → Type 0
AreEngineTurns [] = ⊤
AreEngineTurns (t ∷ ts) = IsNextTurn t.transition t.order.start ts × AreEngineTurns ts
