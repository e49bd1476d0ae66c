-- What the lock tells of a call, in the words of the engine.
use Rattle.std.specs.Prelude.{◌≡◌, ℕ, List, [], ◌∷◌}
use Rattle.std.proofs.Common.{sym, subst}
use Rattle.transitions.specs.EngineCalls.{engine_after}
use Rattle.transitions.specs.EngineHistories.{engine_replay}
use Rattle.member_model.specs.RunEngines.{EngineEntry, EngineState, IsLegalEngine}
use Rattle.turn_lock.specs.History.{Leads}
use Rattle.transition_lock.specs.EngineSteps.{StepsEngine}

-- a history of the lock is one of the engine
pub leads_legal : (s last : EngineState) (h : List (ℕ × EngineEntry)) → Leads StepsEngine s h last → IsLegalEngine s h
leads_legal s last [] leads = tt
leads_legal s last (x ∷ xs) leads = (leads.1.may, leads.1.reply, leads_legal (engine_after s x.1) last xs (subst (λ (t : EngineState). Leads StepsEngine t xs last) leads.1.after_is leads.2))

-- and leads to the state after all its calls
pub leads_replay : (s last : EngineState) (h : List (ℕ × EngineEntry)) → Leads StepsEngine s h last → last ≡ engine_replay s h
leads_replay s last [] leads = sym leads
leads_replay s last (x ∷ xs) leads = leads_replay (engine_after s x.1) last xs (subst (λ (t : EngineState). Leads StepsEngine t xs last) leads.1.after_is leads.2)
