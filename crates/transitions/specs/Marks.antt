-- The begin of the transition that is in progress.
use Rattle.std.specs.Prelude.{◌≡◌, ℕ, Bool, true, false, List, [], ◌∷◌, ◌++◌, Some, Ok, ⊤}
use Rattle.daq_types.specs.declared.runs.Transition.{Transition}
use Rattle.transitions.specs.declared.sheet.Sheet.{Sheet}
use Rattle.transitions.specs.declared.answers.ClientTally.{ClientTally}
use Rattle.transitions.specs.declared.replies.Progress.TheVariants.{Done}
use Rattle.transitions.specs.declared.entry.EngineEntry.{EngineEntry}
use Rattle.transitions.specs.declared.entry.EngineEntry.TheVariants.{Begin, Check}
use Rattle.transitions.specs.EngineCalls.{order_for}
use Rattle.transitions.specs.EnginePoints.{engine_past, order_at, state_at, tallies_at}

module _ {R : Type 0} where
  -- whether the entry begins a transition or tells its end
  abbrev pub is_mark : EngineEntry R → Bool
  is_mark (Begin t sheet (Ok start)) = true
  is_mark (Check (Done outcome) tallies) = true
  is_mark entry = false

  -- no transition begins or ends here
  abbrev pub HasNoMark : List (ℕ × EngineEntry R) → Type 0
  HasNoMark [] = ⊤
  HasNoMark (e ∷ es) = (is_mark e.1 ≡ false) × HasNoMark es

  -- behind these entries this transition is in progress: its begin stands among them, and no begin and no end behind it
  pub record IsUnderway (before : List (ℕ × EngineEntry R)) (transition : Transition) : Type 0 where
    pub earlier : List (ℕ × EngineEntry R)
    pub later : List (ℕ × EngineEntry R)
    pub caller : ℕ
    pub sheet : Sheet R
    pub start : ℕ
    pub stands : before ≡ earlier ++ (caller, Begin transition sheet (Ok start)) ∷ later
    pub on : HasNoMark later
    pub order_is : order_at (engine_past before) ≡ Some (order_for sheet start (state_at (engine_past earlier)))

  -- the tallies are what the clients answered since the begin of a transition that is in progress
  pub record IsEndOf (before : List (ℕ × EngineEntry R)) (transition : Transition) (tallies : List (ClientTally R)) : Type 0 where
    pub underway : IsUnderway before transition
    pub tallies_is : tallies ≡ tallies_at (engine_past before)
