-- What the main thread's own calls tell of the engine at each call that it makes.
use Rattle.std.specs.Prelude.{◌≡◌, ◌≢◌, ℕ, ◌==◌, true, false, List, [], ◌∷◌, ◌++◌, map, Ok, Err, refl}
use Rattle.std.proofs.Common.{ap, sym, subst, ◌∙◌, inl, inr, append-nil}
use Rattle.std.proofs.lemmas.Bool.Decides.{eqb_tells}
use Rattle.daq_types.specs.Callers.{entries_by, main_caller}
use Rattle.transitions.specs.declared.replies.Polled.TheVariants.{Turn, Idle, Closed as PollClosed, NoClient}
use Rattle.transitions.specs.declared.entry.EngineEntry.TheVariants.{Register, Begin, Poll, Answer, Check, Close}
use Rattle.transitions.specs.Engines.{engine_opening}
use Rattle.transitions.specs.EngineCalls.{IsEngineReply, engine_after}
use Rattle.transitions.specs.EngineHistories.{engine_replay}
use Rattle.transitions.specs.EnginePoints.{engine_past, engine_past_after}
use Rattle.member_model.specs.RunEngines.{EngineEntry, EngineState, EngineHistory, IsEngineCaller, IsLegalEngine}
use Rattle.turn_lock.specs.History.{Appends}
use Rattle.session_runs.specs.MainKnowledge.{MainKnows, known_at, known_from, entry_of_main}
use Rattle.session_runs.proofs.KnownSteps.{Knows, polled, answered, main_step}

-- a call of another caller changes nothing that the main thread knows
other_step : (k : MainKnows) (s : EngineState) (by : ℕ) (e : EngineEntry) → by ≢ main_caller → IsEngineCaller by e → IsEngineReply s e → Knows k s → Knows k (engine_after s e)
other_step k s by (Register name sequences dump report reply) other may replied knows = absurd (other may)
other_step k s by (Begin t sheet reply) other may replied knows = absurd (other may.0)
other_step k s by (Poll client (Turn t order dump blank)) other may replied knows = polled k s client t order dump blank replied knows
other_step k s by (Poll client (Idle state)) other may replied knows = knows
other_step k s by (Poll client PollClosed) other may replied knows = knows
other_step k s by (Poll client NoClient) other may replied knows = knows
other_step k s by (Answer client answer (Ok done)) other may replied knows = answered k s client answer s.underway done refl replied knows
other_step k s by (Answer client answer (Err refusal)) other may replied knows = knows
other_step k s by (Check reply tallies) other may replied knows = absurd (other may)
other_step k s by (Close reply) other may replied knows = absurd (other may)

first_own : (x : ℕ × EngineEntry) (h : EngineHistory) → (x.0 == main_caller) ≡ true → entries_by main_caller (x ∷ h) ≡ x.1 ∷ entries_by main_caller h
first_own x h is = rw is refl

first_other : (x : ℕ × EngineEntry) (h : EngineHistory) → (x.0 == main_caller) ≡ false → entries_by main_caller (x ∷ h) ≡ entries_by main_caller h
first_other x h is = rw is refl

-- the point behind these own calls, which follow this point
abbrev behind : (past : EngineHistory) → (own : List EngineEntry) → EngineHistory
behind past own = engine_past_after past (map entry_of_main own)

known_all : (past : EngineHistory) (s : EngineState) (h : EngineHistory) → IsLegalEngine s h → Knows (known_at past) s → Knows (known_at (behind past (entries_by main_caller h))) (engine_replay s h)
known_all past s [] legal knows = knows
known_all past s (x ∷ h) legal knows = elim (eqb_tells x.0 main_caller) as (λ w. Knows (known_at (behind past (entries_by main_caller (x ∷ h)))) (engine_replay s (x ∷ h))) [
  | inl own ↦
      let later : Knows (known_at (entry_of_main x.1 ∷ past)) (engine_after s x.1) = main_step past s x.1 legal.1 knows in
      subst (λ (es : List EngineEntry). Knows (known_at (behind past es)) (engine_replay s (x ∷ h))) (sym (first_own x h own.0)) (known_all (entry_of_main x.1 ∷ past) (engine_after s x.1) h legal.2 later)
  | inr differs ↦
      let later : Knows (known_at past) (engine_after s x.1) = other_step (known_at past) s x.0 x.1 differs.1 legal.0 legal.1 knows in
      subst (λ (es : List EngineEntry). Knows (known_at (behind past es)) (engine_replay s (x ∷ h))) (sym (first_other x h differs.0)) (known_all past (engine_after s x.1) h legal.2 later)
]

opening_known : Knows (known_at []) engine_opening
opening_known = record { closed = refl; clients = refl; starts = refl; transition = (refl, refl) }

-- in a legal history the engine is as the main thread's own calls tell
pub known : (h : EngineHistory) → IsLegalEngine engine_opening h → Knows (known_from (entries_by main_caller h)) (engine_replay engine_opening h)
known h legal = known_all [] engine_opening h legal opening_known

-- One call more.

behind_more : (past : EngineHistory) (own : List EngineEntry) (e : EngineEntry) → behind past (own ++ e ∷ []) ≡ entry_of_main e ∷ behind past own
behind_more past [] e = refl
behind_more past (x ∷ own) e = behind_more (entry_of_main x ∷ past) own e

pub known_more : (own : List EngineEntry) (e : EngineEntry) → known_from (own ++ e ∷ []) ≡ known_at (entry_of_main e ∷ engine_past (map entry_of_main own))
known_more own e = ap known_at (behind_more [] own e)

own_joined : (xs ys : EngineHistory) → entries_by main_caller (xs ++ ys) ≡ entries_by main_caller xs ++ entries_by main_caller ys
own_joined [] ys = refl
own_joined (x ∷ xs) ys = elim (eqb_tells x.0 main_caller) as (λ w. entries_by main_caller (x ∷ (xs ++ ys)) ≡ entries_by main_caller (x ∷ xs) ++ entries_by main_caller ys) [
  | inl own ↦ first_own x (xs ++ ys) own.0 ∙ (ap (λ (l : List EngineEntry). x.1 ∷ l) (own_joined xs ys) ∙ sym (ap (λ (l : List EngineEntry). l ++ entries_by main_caller ys) (first_own x xs own.0)))
  | inr differs ↦ first_other x (xs ++ ys) differs.0 ∙ (own_joined xs ys ∙ sym (ap (λ (l : List EngineEntry). l ++ entries_by main_caller ys) (first_other x xs differs.0)))
]

legal_last : (s : EngineState) (xs : EngineHistory) (e : ℕ × EngineEntry) → IsLegalEngine s (xs ++ e ∷ []) → IsLegalEngine s xs × IsEngineReply (engine_replay s xs) e.1
legal_last s [] e legal = (tt, legal.1)
legal_last s (x ∷ xs) e legal = let rest : _ = legal_last (engine_after s x.1) xs e legal.2 in ((legal.0, legal.1, rest.0), rest.1)

-- the engine at a call of the main thread: it is as the own calls before tell, and gave this reply
pub record AtCall (own : List EngineEntry) (e : EngineEntry) : Type 0 where
  pub engine : EngineState
  pub knows : Knows (known_from own) engine
  pub reply : IsEngineReply engine e

pub at_call : (first : EngineState) (number : ℕ) (before after : EngineHistory) (e : EngineEntry) → first ≡ engine_opening → number ≡ main_caller → Appends number e before after → IsLegalEngine first after
    → AtCall (entries_by number before) e
at_call first number before after e opening main appends legal =
    let whole : IsLegalEngine engine_opening ((before ++ appends.others) ++ (number, e) ∷ []) = subst (λ (s : EngineState). IsLegalEngine s ((before ++ appends.others) ++ (number, e) ∷ [])) opening (subst (IsLegalEngine first) appends.list legal) in
    let parts : IsLegalEngine engine_opening (before ++ appends.others) × IsEngineReply (engine_replay engine_opening (before ++ appends.others)) e =
    legal_last engine_opening (before ++ appends.others) (number, e) whole in
    let foreign : entries_by main_caller appends.others ≡ [] = subst (λ (n : ℕ). entries_by n appends.others ≡ []) main appends.foreign in
    let own : entries_by main_caller (before ++ appends.others) ≡ entries_by main_caller before =
    own_joined before appends.others ∙ (ap (λ (l : List EngineEntry). entries_by main_caller before ++ l) foreign ∙ append-nil (entries_by main_caller before)) in
    subst (λ (n : ℕ). AtCall (entries_by n before) e) (sym main) (record {
      engine = engine_replay engine_opening (before ++ appends.others);
      knows = subst (λ (es : List EngineEntry). Knows (known_from es) (engine_replay engine_opening (before ++ appends.others))) own (known (before ++ appends.others) parts.0);
      reply = parts.1;
    })
