-- A call of one caller in the history of all, and what is known of the calls before it.
use Rattle.std.specs.Prelude.{◌≡◌, ℕ, ◌==◌, true, false, List, [], ◌∷◌, ◌++◌, refl}
use Rattle.std.specs.List.{AllByRecursion}
use Rattle.std.proofs.Common.{ap, sym, ◌∙◌, inl, inr}
use Rattle.std.proofs.lemmas.Bool.Decides.{eqb_tells}
use Rattle.daq_types.specs.Callers.{entries_by}
use Rattle.transitions.specs.EngineCalls.{IsEngineReply, engine_after}
use Rattle.transitions.specs.EngineHistories.{engine_replay}
use Rattle.transitions.specs.GivenTurns.{SpeaksFor}
use Rattle.member_model.specs.RunEngines.{EngineEntry, EngineState, EngineHistory, IsLegalEngine}

own_first : (by : ℕ) (x : ℕ × EngineEntry) (h : EngineHistory) → (x.0 == by) ≡ true → entries_by by (x ∷ h) ≡ x.1 ∷ entries_by by h
own_first by x h is = rw is refl

own_other : (by : ℕ) (x : ℕ × EngineEntry) (h : EngineHistory) → (x.0 == by) ≡ false → entries_by by (x ∷ h) ≡ entries_by by h
own_other by x h is = rw is refl

-- the call stands in the history, behind this many calls of the caller
pub record PointOf (by : ℕ) (h : EngineHistory) (before : List EngineEntry) (e : EngineEntry) : Type 0 where
  pub front : EngineHistory
  pub back : EngineHistory
  pub whole : h ≡ front ++ (by, e) ∷ back
  pub own : entries_by by front ≡ before

none_there : (before after : List EngineEntry) (e : EngineEntry) → [] ≡ before ++ e ∷ after → ⊥
none_there [] after e is = cc (is)
none_there (b ∷ before) after e is = cc (is)

mine : (by : ℕ) (x : ℕ × EngineEntry) (h : EngineHistory) (before after : List EngineEntry) (e : EngineEntry) → (x.0 == by) ≡ true → x.0 ≡ by → x.1 ∷ entries_by by h ≡ before ++ e ∷ after
    → ((bs : List EngineEntry) → entries_by by h ≡ bs ++ e ∷ after → PointOf by h bs e) → PointOf by (x ∷ h) before e
mine by x h [] after e is same whole rest =
    let entry : x.1 ≡ e = cc (whole) in
    record {
      front = [];
      back = h;
      whole = ap (λ (k : ℕ). (k, x.1) ∷ h) same ∙ ap (λ (f : EngineEntry). (by, f) ∷ h) entry;
      own = refl;
    }
mine by x h (b ∷ bs) after e is same whole rest =
    let entry : x.1 ≡ b = cc (whole) in
    let more : entries_by by h ≡ bs ++ e ∷ after = cc (whole) in
    let found : PointOf by h bs e = rest bs more in
    record {
      front = x ∷ found.front;
      back = found.back;
      whole = ap (λ (l : EngineHistory). x ∷ l) found.whole;
      own = own_first by x found.front is ∙ (ap (λ (f : EngineEntry). f ∷ entries_by by found.front) entry ∙ ap (λ (l : List EngineEntry). b ∷ l) found.own);
    }

pub point_of : (by : ℕ) (h : EngineHistory) (before after : List EngineEntry) (e : EngineEntry) → entries_by by h ≡ before ++ e ∷ after → PointOf by h before e
point_of by [] before after e is = absurd (none_there before after e is)
point_of by (x ∷ h) before after e is = elim (eqb_tells x.0 by) as (λ w. PointOf by (x ∷ h) before e) [
  | inl same ↦ mine by x h before after e same.0 same.1 (sym (own_first by x h same.0) ∙ is) (λ bs whole. point_of by h bs after e whole)
  | inr differs ↦
      let found : PointOf by h before e = point_of by h before after e (sym (own_other by x h differs.0) ∙ is) in
      record {
        front = x ∷ found.front;
        back = found.back;
        whole = ap (λ (l : EngineHistory). x ∷ l) found.whole;
        own = own_other by x found.front differs.0 ∙ found.own;
      }
]

pub legal_front : (s : EngineState) (xs ys : EngineHistory) → IsLegalEngine s (xs ++ ys) → IsLegalEngine s xs
legal_front s [] ys legal = tt
legal_front s (x ∷ xs) ys legal = (legal.0, legal.1, legal_front (engine_after s x.1) xs ys legal.2)

pub reply_at : (s : EngineState) (xs ys : EngineHistory) (x : ℕ × EngineEntry) → IsLegalEngine s (xs ++ x ∷ ys) → IsEngineReply (engine_replay s xs) x.1
reply_at s [] ys x legal = legal.1
reply_at s (y ∷ xs) ys x legal = reply_at (engine_after s y.1) xs ys x legal.2

pub speaks_front : (by client : ℕ) (xs ys : EngineHistory) → SpeaksFor by client (xs ++ ys) → SpeaksFor by client xs
speaks_front by client [] ys speaks = tt
speaks_front by client (x ∷ xs) ys speaks = (speaks.0, speaks_front by client xs ys speaks.1)

pub all_front : (P : ℕ × EngineEntry → Type 0) (xs ys : EngineHistory) → AllByRecursion P (xs ++ ys) → AllByRecursion P xs
all_front P [] ys all = tt
all_front P (x ∷ xs) ys all = (all.0, all_front P xs ys all.1)
