-- The turn that one client has open, read off the client's calls; and where its turns come from.
use Rattle.std.specs.Prelude.{◌≡◌, ℕ, ◌==◌, Bool, true, false, if◌then◌else◌, List, [], ◌∷◌, map, Option, Some, None, Ok, ⊤}
use Rattle.daq_types.specs.declared.runs.Transition.{Transition}
use Rattle.daq_types.specs.declared.runs.Order.{Order}
use Rattle.transitions.specs.declared.replies.Polled.TheVariants.{Turn}
use Rattle.transitions.specs.declared.entry.EngineEntry.{EngineEntry}
use Rattle.transitions.specs.declared.entry.EngineEntry.TheVariants.{Poll, Answer}
use Rattle.transitions.specs.EngineCalls.{turn_kind, order_for}
use Rattle.transitions.specs.EnginePoints.{engine_past, state_at, off_at}
use Rattle.transitions.specs.Marks.{IsUnderway}

-- a turn that was given and is not answered
pub record OpenTurn : Type 0 where
  pub turn : Transition
  pub order : Order

module _ {R : Type 0} where
  abbrev pub open_after : (client : ℕ) → EngineEntry R → Option OpenTurn → Option OpenTurn
  open_after client (Poll c (Turn turn order dump blank)) before = if c == client then Some (record { turn = turn; order = order }) else before
  open_after client (Answer c answer (Ok done)) before = if c == client then None else before
  open_after client entry before = before

  -- the client's open turn behind these entries, the latest of which stands first
  abbrev pub open_at : (client : ℕ) → List (EngineEntry R) → Option OpenTurn
  open_at client [] = None
  open_at client (e ∷ es) = open_after client e (open_at client es)

  abbrev pub calls_of : List (ℕ × EngineEntry R) → List (EngineEntry R)
  calls_of entries = map (λ e. e.1) entries

  -- whether the entry gives the client a turn or accepts its answer
  abbrev pub is_of_client : (client : ℕ) → EngineEntry R → Bool
  is_of_client client (Poll c (Turn turn order dump blank)) = c == client
  is_of_client client (Answer c answer (Ok done)) = c == client
  is_of_client client entry = false

  -- only this caller polls and answers for the client
  abbrev pub SpeaksFor : (by client : ℕ) → List (ℕ × EngineEntry R) → Type 0
  SpeaksFor by client [] = ⊤
  SpeaksFor by client (e ∷ es) = (is_of_client client e.1 ≡ true → e.0 ≡ by) × SpeaksFor by client es

  -- a reply repeats the open turn, without anything that is given once
  pub record IsRepeated (open_turn : OpenTurn) (turn : Transition) (order : Order) (dump : Option (List ℕ)) (blank : Option R) : Type 0 where
    pub turn_is : turn ≡ open_turn.turn
    pub order_is : order ≡ open_turn.order
    pub dump_is : dump ≡ None
    pub blank_is : blank ≡ None

  -- The transition in progress is the one that the turn is of, or its start was refused and the turn is one of start-abort. The
  -- order is that of its begin, and the dump, if there is one, that of its sheet.
  pub record IsFromBegin (before : List (ℕ × EngineEntry R)) (turn : Transition) (order : Order) (dump : Option (List ℕ)) : Type 0 where
    pub transition : Transition
    pub underway : IsUnderway before transition
    pub turn_is : turn ≡ turn_kind transition (off_at (engine_past before))
    pub order_is : order ≡ order_for underway.sheet underway.start (state_at (engine_past underway.earlier))
    pub dump_is : (bytes : List ℕ) → dump ≡ Some bytes → underway.sheet.dump ≡ Some bytes

  -- An answer of the client here is the one to its open turn, which is one of the transition in progress, with its order.
  pub record ClosesTurn (before : List (ℕ × EngineEntry R)) (client : ℕ) : Type 0 where
    pub transition : Transition
    pub underway : IsUnderway before transition
    pub open_turn : OpenTurn
    pub open_is : open_at client (calls_of (engine_past before)) ≡ Some open_turn
    pub turn_is : open_turn.turn ≡ turn_kind transition (off_at (engine_past before))
    pub order_is : open_turn.order ≡ order_for underway.sheet underway.start (state_at (engine_past underway.earlier))
