-- Turns that an analyzer refused as not ready: each came without a blank report.
use Rattle.std.specs.Prelude.{◌≡◌, ℕ, List, ◌∷◌, ◌++◌, Some, None}
use Rattle.daq_types.specs.declared.runs.Why.TheVariants.{NotReady}
use Rattle.transitions.specs.declared.answers.Answer.TheVariants.{No}
use Rattle.transitions.specs.declared.replies.Polled.TheVariants.{Turn}
use Rattle.member_model.specs.RunEngines.{EngineEntry}
use Rattle.transitions.specs.declared.entry.EngineEntry.TheVariants.{Poll}
use Rattle.member_model.specs.Turns.{MemberTurn, HasTurn}
use Rattle.member_model.specs.TurnCalls.{member_turns}
use Rattle.daq_members.specs.OwnTurns.{start_owed}

-- One of these calls was a poll that gave the client the turn while it owed no answer, and no blank report with it.
pub record IsBareTurn (client : ℕ) (calls : List EngineEntry) (t : MemberTurn) : Type 0 where
  pub earlier : List EngineEntry
  pub later : List EngineEntry
  pub is : calls ≡ earlier ++ Poll client (Turn t.transition t.order t.dump None) ∷ later
  pub fresh : start_owed client earlier ≡ None

-- each turn of the client that was refused as not ready is such a one
abbrev pub AreBare : (client : ℕ) → (calls : List EngineEntry) → Type 0
AreBare client calls = (t : MemberTurn) → HasTurn (member_turns client calls) t → t.answer ≡ Some (No NotReady) →
    IsBareTurn client calls t
