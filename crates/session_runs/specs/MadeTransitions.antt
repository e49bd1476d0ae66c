-- A transition that the main thread makes, with the rounds that it gives the members meanwhile.
use Rattle.std.specs.Prelude.{◌≡◌, ℕ, List, [], ◌∷◌, ◌++◌, replicate, Ok}
use Rattle.daq_types.specs.declared.runs.Transition.{Transition}
use Rattle.daq_types.specs.declared.runs.StartOutcome.{StartOutcome}
use Rattle.transitions.specs.declared.replies.Progress.TheVariants.{Going, Done}
use Rattle.member_model.specs.RunEngines.{Sheet, ClientTally, EngineEntry}
use Rattle.transitions.specs.declared.entry.EngineEntry.TheVariants.{Begin, Check}
use Rattle.history_laws.specs.BegunTurns.{AreUnmarked}
use Rattle.member_crew.specs.Rounds.{HadRounds}

-- so many checks, each of which tells that the transition is going on
abbrev pub going_checks : (count : ℕ) → List EngineEntry
going_checks count = replicate count (Check Going [])

-- the check that tells the end, and the tallies
abbrev pub done_check : StartOutcome → List ClientTally → EngineEntry
done_check outcome tallies = Check (Done outcome) tallies

-- A transition stands among these calls, from its begin to its Done: no other begins or ends between the two.
pub record TransitionIn (own : List EngineEntry) (transition : Transition) (sheet : Sheet) (start : ℕ) (outcome : StartOutcome) (tallies : List ClientTally) : Type 0 where
  pub before : List EngineEntry
  pub between : List EngineEntry
  pub after : List EngineEntry
  pub whole : own ≡ before ++ Begin transition sheet (Ok start) ∷ (between ++ Check (Done outcome) tallies ∷ after)
  pub on : AreUnmarked between

module _ {M : Type 0} (round : M → M → Type 0) where
  -- The engine was checked until it told the end of the transition, and the members had a round behind each check but the last.
  pub record WaitsForEnd (outcome : StartOutcome) (tallies : List ClientTally) (own later : List EngineEntry)
      (before after : M) : Type 0 where
    pub rounds : ℕ
    pub calls : later ≡ own ++ (going_checks rounds ++ done_check outcome tallies ∷ [])
    pub members : HadRounds round rounds before after

  -- A transition was made: begun with this sheet, and then waited for. These are the main thread's own calls on the engine
  -- before and after it, and the members before and after it.
  pub record DrivesTransition (transition : Transition) (sheet : Sheet) (start : ℕ) (outcome : StartOutcome)
      (tallies : List ClientTally) (own later : List EngineEntry) (before after : M) : Type 0 where
    pub rounds : ℕ
    pub calls : later ≡ own ++ Begin transition sheet (Ok start) ∷ (going_checks rounds ++ done_check outcome tallies ∷ [])
    pub members : HadRounds round rounds before after
