-- What the main thread knows behind registrations; and that transitions but starts are completed.
use Rattle.std.specs.Prelude.{◌≡◌, ◌≢◌, ℕ, zero, suc, List, [], ◌∷◌, ◌++◌, Ok, refl}
use Rattle.std.proofs.Common.{ap, sym, subst, ◌∙◌, append_assoc, append-nil}
use Rattle.daq_types.specs.Callers.{entries_by, main_caller}
use Rattle.daq_types.specs.declared.runs.Transition.{Transition}
use Rattle.daq_types.specs.declared.runs.Transition.TheVariants.{Start}
use Rattle.daq_types.specs.declared.runs.StartOutcome.{StartOutcome}
use Rattle.daq_types.specs.declared.runs.StartOutcome.TheVariants.{Completed}
use Rattle.transitions.specs.declared.entry.EngineEntry.TheVariants.{Begin}
use Rattle.transitions.specs.Engines.{engine_opening}
use Rattle.member_model.specs.RunEngines.{Sheet, ClientTally, EngineEntry, EngineState, EngineHistory, IsLegalEngine}
use Rattle.history_laws.specs.BegunTurns.{AreUnmarked}
use Rattle.history_laws.specs.EngineLaws.{MainHasTransition, OthersComplete}
use Rattle.session_runs.specs.declared.opening.MemberName.{MemberName}
use Rattle.session_runs.specs.MainKnowledge.{MainKnows, known_from}
use Rattle.session_runs.specs.MadeTransitions.{going_checks, done_check, DrivesTransition}
use Rattle.session_runs.specs.Members.{registration, registrations}
use Rattle.session_runs.proofs.KnownCalls.{known_more}

-- the same is known of the engine and of its transitions
pub record KnowsSame (own later : List EngineEntry) : Type 0 where
  pub closed : (known_from later).closed ≡ (known_from own).closed
  pub going : (known_from later).going ≡ (known_from own).going
  pub state : (known_from later).state ≡ (known_from own).state
  pub starts : (known_from later).starts ≡ (known_from own).starts

one_same : (own : List EngineEntry) (client : ℕ) (m : MemberName) → KnowsSame own (own ++ registration client m ∷ [])
one_same own client m = record {
  closed = ap (λ (k : MainKnows). k.closed) (known_more own (registration client m));
  going = ap (λ (k : MainKnows). k.going) (known_more own (registration client m));
  state = ap (λ (k : MainKnows). k.state) (known_more own (registration client m));
  starts = ap (λ (k : MainKnows). k.starts) (known_more own (registration client m));
}

both_same : (own between later : List EngineEntry) → KnowsSame own between → KnowsSame between later → KnowsSame own later
both_same own between later first then_ = record {
  closed = then_.closed ∙ first.closed;
  going = then_.going ∙ first.going;
  state = then_.state ∙ first.state;
  starts = then_.starts ∙ first.starts;
}

-- registrations change none of it
pub registered_same : (own : List EngineEntry) (first : ℕ) (ms : List MemberName) → KnowsSame own (own ++ registrations first ms)
registered_same own first [] = subst (KnowsSame own) (sym (append-nil own)) (record { closed = refl; going = refl; state = refl; starts = refl })
registered_same own first (m ∷ ms) =
    let one : List EngineEntry = own ++ registration first m ∷ [] in
    subst (KnowsSame own) (append_assoc own (registration first m ∷ []) (registrations (suc first) ms))
    (both_same own one (one ++ registrations (suc first) ms) (one_same own first m) (registered_same one (suc first) ms))

unmarked_checks : (count : ℕ) → AreUnmarked (going_checks count)
unmarked_checks zero = tt
unmarked_checks (suc n) = (refl, unmarked_checks n)

-- a transition that the main thread made and that is no start was not refused
pub completes : {M : Type 0} (round : M → M → Type 0) (first : EngineState) (number : ℕ) (own : List EngineEntry) (history : EngineHistory) (before after : M) (t : Transition) (sheet : Sheet) (start : ℕ) (outcome : StartOutcome)
    (tallies : List ClientTally) → MainHasTransition → OthersComplete → first ≡ engine_opening → number ≡ main_caller → IsLegalEngine first history
    → DrivesTransition round t sheet start outcome tallies own (entries_by number history) before after → t ≢ Start → outcome ≡ Completed
completes round first number own history before after t sheet start outcome tallies has others opening main legal drives not_start =
    let opened : IsLegalEngine engine_opening history = subst (λ (s : EngineState). IsLegalEngine s history) opening legal in
    let checks : List EngineEntry = going_checks drives.rounds in
    let calls : entries_by main_caller history ≡ own ++ Begin t sheet (Ok start) ∷ (checks ++ done_check outcome tallies ∷ []) =
    subst (λ (n : ℕ). entries_by n history ≡ own ++ Begin t sheet (Ok start) ∷ (checks ++ done_check outcome tallies ∷ [])) main drives.calls in
    others history opened t sheet start outcome tallies (has history own checks [] t sheet start outcome tallies opened calls (unmarked_checks drives.rounds)).0 not_start
