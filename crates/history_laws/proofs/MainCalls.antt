-- A transition that the main thread's own calls tell stands in the history of all callers.
use Rattle.std.specs.Prelude.{◌≡◌, ◌≢◌, ℕ, ◌==◌, true, false, List, [], ◌∷◌, ◌++◌, Ok, Err, refl, ⊤}
use Rattle.std.proofs.Common.{ap, sym, subst, ◌∙◌, inl, inr}
use Rattle.std.proofs.lemmas.Bool.Decides.{eqb_tells}
use Rattle.daq_types.specs.Callers.{entries_by, main_caller}
use Rattle.daq_types.specs.declared.runs.Transition.{Transition}
use Rattle.daq_types.specs.declared.runs.StartOutcome.{StartOutcome}
use Rattle.transitions.specs.declared.replies.Progress.TheVariants.{Done}
use Rattle.transitions.specs.declared.entry.EngineEntry.TheVariants.{Register, Begin, Poll, Answer, Check, Close}
use Rattle.transitions.specs.Engines.{engine_opening}
use Rattle.transitions.specs.EngineCalls.{engine_after}
use Rattle.transitions.specs.Marks.{is_mark, HasNoMark}
use Rattle.member_model.specs.RunEngines.{Sheet, ClientTally, EngineEntry, EngineState, EngineHistory, IsEngineCaller, IsLegalEngine}
use Rattle.history_laws.specs.BegunTurns.{HasTransition, AreUnmarked}

-- A caller's own call in the history.

-- the call of this caller stands in the history; these are its own calls before and behind it
pub record OwnAt {E : Type 0} (by : ℕ) (history : List (ℕ × E)) (before : List E) (entry : E) (after : List E) : Type 0 where
  pub earlier : List (ℕ × E)
  pub later : List (ℕ × E)
  pub whole : history ≡ earlier ++ (by, entry) ∷ later
  pub own_before : entries_by by earlier ≡ before
  pub own_after : entries_by by later ≡ after

first_own : {E : Type 0} (by : ℕ) (x : ℕ × E) (h : List (ℕ × E)) → (x.0 == by) ≡ true → entries_by by (x ∷ h) ≡ x.1 ∷ entries_by by h
first_own by x h is = rw is refl

first_other : {E : Type 0} (by : ℕ) (x : ℕ × E) (h : List (ℕ × E)) → (x.0 == by) ≡ false → entries_by by (x ∷ h) ≡ entries_by by h
first_other by x h is = rw is refl

none_there : {E : Type 0} (before : List E) (entry : E) (after : List E) → [] ≡ before ++ entry ∷ after → ⊥
none_there [] entry after is = absurd (cc (is))
none_there (b ∷ before) entry after is = absurd (cc (is))

here_or_behind : {E : Type 0} (by : ℕ) (x : ℕ × E) (h : List (ℕ × E)) (before : List E) (entry : E) (after : List E) → x.0 ≡ by → (x.0 == by) ≡ true
    → x.1 ∷ entries_by by h ≡ before ++ entry ∷ after → ((xs : List E) → entries_by by h ≡ xs ++ entry ∷ after → OwnAt by h xs entry after) → OwnAt by (x ∷ h) before entry after
here_or_behind {E} by x h [] entry after same test is behind =
    let head : x.1 ≡ entry = cc (is) in
    let rest : entries_by by h ≡ after = cc (is) in
    let pair : x ≡ (by, entry) = ap (λ (n : ℕ). (n, x.1)) same ∙ ap (λ (e : E). (by, e)) head in
    record { earlier = []; later = h; whole = ap (λ (p : ℕ × E). p ∷ h) pair; own_before = refl; own_after = rest }
here_or_behind {E} by x h (b ∷ before) entry after same test is behind =
    let head : x.1 ≡ b = cc (is) in
    let rest : entries_by by h ≡ before ++ entry ∷ after = cc (is) in
    let at : OwnAt by h before entry after = behind before rest in
    record {
      earlier = x ∷ at.earlier;
      later = at.later;
      whole = ap (λ (l : List (ℕ × E)). x ∷ l) at.whole;
      own_before = first_own by x at.earlier test ∙ (ap (λ (e : E). e ∷ entries_by by at.earlier) head ∙ ap (λ (l : List E). b ∷ l) at.own_before);
      own_after = at.own_after;
    }

pub own_at : {E : Type 0} (by : ℕ) (history : List (ℕ × E)) (before : List E) (entry : E) (after : List E) → entries_by by history ≡ before ++ entry ∷ after → OwnAt by history before entry after
own_at by [] before entry after is = absurd (none_there before entry after is)
own_at {E} by (x ∷ h) before entry after is = elim (eqb_tells x.0 by) as (λ w. OwnAt by (x ∷ h) before entry after) [
  | inl same ↦ here_or_behind by x h before entry after same.1 same.0 (sym (first_own by x h same.0) ∙ is) (λ xs rest. own_at by h xs entry after rest)
  | inr differs ↦
      let at : OwnAt by h before entry after = own_at by h before entry after (sym (first_other by x h differs.0) ∙ is) in
      record {
        earlier = x ∷ at.earlier;
        later = at.later;
        whole = ap (λ (l : List (ℕ × E)). x ∷ l) at.whole;
        own_before = first_other by x at.earlier differs.0 ∙ at.own_before;
        own_after = at.own_after;
      }
]

-- Marks are the main thread's.

abbrev MayCall : EngineHistory → Type 0
MayCall [] = ⊤
MayCall (e ∷ es) = IsEngineCaller e.0 e.1 × MayCall es

legal_calls : (s : EngineState) (h : EngineHistory) → IsLegalEngine s h → MayCall h
legal_calls s [] legal = tt
legal_calls s (e ∷ es) legal = (legal.0, legal_calls (engine_after s e.1) es legal.2)

calls_behind : (xs ys : EngineHistory) → MayCall (xs ++ ys) → MayCall ys
calls_behind [] ys may = may
calls_behind (x ∷ xs) ys may = calls_behind xs ys may.1

calls_before : (xs ys : EngineHistory) → MayCall (xs ++ ys) → MayCall xs
calls_before [] ys may = tt
calls_before (x ∷ xs) ys may = (may.0, calls_before xs ys may.1)

unmarked_by_others : (by : ℕ) (e : EngineEntry) → IsEngineCaller by e → by ≢ main_caller → is_mark e ≡ false
unmarked_by_others by (Register name sequences dump report reply) may other = refl
unmarked_by_others by (Begin t sheet (Ok start)) may other = absurd (other may.0)
unmarked_by_others by (Begin t sheet (Err refusal)) may other = refl
unmarked_by_others by (Poll client reply) may other = refl
unmarked_by_others by (Answer client answer reply) may other = refl
unmarked_by_others by (Check reply tallies) may other = absurd (other may)
unmarked_by_others by (Close reply) may other = refl

no_mark : (es : EngineHistory) → MayCall es → AreUnmarked (entries_by main_caller es) → HasNoMark es
no_mark [] may own = tt
no_mark (x ∷ es) may own = elim (eqb_tells x.0 main_caller) as (λ w. HasNoMark (x ∷ es)) [
  | inl same ↦ let here : AreUnmarked (x.1 ∷ entries_by main_caller es) = subst AreUnmarked (first_own main_caller x es same.0) own in (here.0, no_mark es may.1 here.1)
  | inr differs ↦ (unmarked_by_others x.0 x.1 may.0 differs.1, no_mark es may.1 (subst AreUnmarked (first_other main_caller x es differs.0) own))
]

-- A transition by the main thread.

pub main_has : (history : EngineHistory) (before between after : List EngineEntry) (transition : Transition) (sheet : Sheet) (start : ℕ) (outcome : StartOutcome) (tallies : List ClientTally)
    → IsLegalEngine engine_opening history → entries_by main_caller history ≡ before ++ Begin transition sheet (Ok start) ∷ (between ++ Check (Done outcome) tallies ∷ after) → AreUnmarked between
    → (has : HasTransition history transition sheet start outcome tallies) × (entries_by main_caller has.earlier ≡ before)
main_has history before between after transition sheet start outcome tallies legal own unmarked =
    let begin : OwnAt main_caller history before (Begin transition sheet (Ok start)) (between ++ Check (Done outcome) tallies ∷ after) =
    own_at main_caller history before (Begin transition sheet (Ok start)) (between ++ Check (Done outcome) tallies ∷ after) own in
    let done : OwnAt main_caller begin.later between (Check (Done outcome) tallies) after = own_at main_caller begin.later between (Check (Done outcome) tallies) after begin.own_after in
    let behind : MayCall ((main_caller, Begin transition sheet (Ok start)) ∷ begin.later) =
    calls_behind begin.earlier ((main_caller, Begin transition sheet (Ok start)) ∷ begin.later) (subst MayCall begin.whole (legal_calls engine_opening history legal)) in
    let between_calls : MayCall done.earlier = calls_before done.earlier ((main_caller, Check (Done outcome) tallies) ∷ done.later) (subst MayCall done.whole behind.1) in (
      record {
        earlier = begin.earlier;
        between = done.earlier;
        later = done.later;
        opener = main_caller;
        closer = main_caller;
        whole = begin.whole ∙ ap (λ (l : EngineHistory). begin.earlier ++ (main_caller, Begin transition sheet (Ok start)) ∷ l) done.whole;
        on = no_mark done.earlier between_calls (subst AreUnmarked (sym done.own_before) unmarked);
      },
      begin.own_before,
    )
