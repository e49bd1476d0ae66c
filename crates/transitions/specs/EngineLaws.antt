-- What every legal history of an engine tells, whoever made its calls.
use Rattle.std.specs.Prelude.{◌≡◌, ◌<◌, ◌++◌, ◌∷◌, ℕ, List, Ok, Option, Some, ⊤}
use Rattle.daq_types.specs.declared.runs.Transition.{Transition}
use Rattle.daq_types.specs.declared.runs.Transition.TheVariants.{Start}
use Rattle.daq_types.specs.declared.runs.Order.{Order}
use Rattle.daq_types.specs.declared.runs.StartOutcome.{StartOutcome}
use Rattle.transitions.specs.declared.client.Registered.{Registered}
use Rattle.transitions.specs.declared.sheet.Sheet.{Sheet}
use Rattle.transitions.specs.declared.answers.Answer.{Answer as ClientAnswer}
use Rattle.transitions.specs.declared.answers.ClientTally.{ClientTally}
use Rattle.transitions.specs.declared.replies.Polled.TheVariants.{Turn}
use Rattle.transitions.specs.declared.replies.Progress.TheVariants.{Done}
use Rattle.transitions.specs.declared.entry.EngineEntry.TheVariants.{Begin, Poll, Answer, Check}
use Rattle.transitions.specs.Called.{called_list}
use Rattle.transitions.specs.CalledOrder.{IsCalledList}
use Rattle.transitions.specs.Engines.{engine_opening}
use Rattle.transitions.specs.EngineHistories.{EngineHistory, IsLegalEngine}
use Rattle.transitions.specs.EnginePoints.{engine_past}
use Rattle.transitions.specs.GivenTurns.{OpenTurn, open_at, calls_of, IsRepeated, IsFromBegin, ClosesTurn}
use Rattle.transitions.specs.Marks.{IsEndOf}

-- The called list is that of the clients, for each transition.
abbrev pub CalledInOrder : Type 0
CalledInOrder = (transition : Transition) → (clients : List Registered) →
    IsCalledList transition clients (called_list transition clients)

module _ {R : Type 0} (is_blank : R → Type 0) where
  -- a history of an engine that opened stopped and without clients
  abbrev pub IsHistory : EngineHistory R → Type 0
  IsHistory = IsLegalEngine is_blank engine_opening

  -- Of two starts that are begun the later one has the higher number.
  abbrev pub StartNumbersRise : Type 0
  StartNumbersRise = (before between after : EngineHistory R) → (caller other : ℕ) → (sheet more : Sheet R) → (n m : ℕ) →
      IsHistory (before ++ (caller, Begin Start sheet (Ok n)) ∷ (between ++ (other, Begin Start more (Ok m)) ∷ after)) →
      n < m

  -- A turn that is polled while it is open is the same turn again.
  abbrev pub TurnsRepeat : Type 0
  TurnsRepeat = (before after : EngineHistory R) → (caller client : ℕ) →
      (turn : Transition) → (order : Order) → (dump : Option (List ℕ)) → (blank : Option R) → (open_turn : OpenTurn) →
      IsHistory (before ++ (caller, Poll client (Turn turn order dump blank)) ∷ after) →
      open_at client (calls_of (engine_past before)) ≡ Some open_turn →
      IsRepeated open_turn turn order dump blank

  -- A turn is one of the transition that was begun last, or of its start-abort.
  abbrev pub TurnsAreBegun : Type 0
  TurnsAreBegun = (before after : EngineHistory R) → (caller client : ℕ) →
      (turn : Transition) → (order : Order) → (dump : Option (List ℕ)) → (blank : Option R) →
      IsHistory (before ++ (caller, Poll client (Turn turn order dump blank)) ∷ after) →
      IsFromBegin before turn order dump

  -- An answer that is accepted closes the client's open turn.
  abbrev pub AnswersCloseTurns : Type 0
  AnswersCloseTurns = (before after : EngineHistory R) → (caller client : ℕ) → (answer : ClientAnswer R) → (done : ⊤) →
      IsHistory (before ++ (caller, Answer client answer (Ok done)) ∷ after) →
      ClosesTurn before client

  -- Where Done is told, its tallies are the answers since the begin of its transition.
  abbrev pub TalliesBelong : Type 0
  TalliesBelong = (before after : EngineHistory R) → (caller : ℕ) → (outcome : StartOutcome) → (tallies : List (ClientTally R)) →
      IsHistory (before ++ (caller, Check (Done outcome) tallies) ∷ after) →
      (transition : Transition) × IsEndOf before transition tallies
