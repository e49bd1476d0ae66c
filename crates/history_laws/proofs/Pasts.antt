-- Points of a history, the entries of one caller there, and what legality says of each.
use Rattle.std.specs.Prelude.{◌≡◌, ◌≢◌, ℕ, ◌==◌, Bool, if◌then◌else◌, List, [], ◌∷◌, ◌++◌, map, Some, None, Ok, Err, refl, ⊤}
use Rattle.std.specs.List.{filter}
use Rattle.std.proofs.Common.{ap, sym, ◌∙◌, subst, append_assoc, append-nil}
use Rattle.std.proofs.lemmas.Bool.{eqb-true, eqb-false}
use Rattle.daq_types.specs.Callers.{entries_by}
use Rattle.daq_types.proofs.CallersLaws.{entries_by-append}
use Rattle.buffer_core.specs.declared.entry.BufferEntry.{BufferEntry}
use Rattle.buffer_core.specs.declared.entry.BufferEntry.TheVariants.{Attach, Cancel}
use Rattle.buffer_core.specs.Window.{Window, opening}
use Rattle.buffer_core.specs.Calls.{window_after}
use Rattle.buffer_core.specs.Histories.{IsLegal}
use Rattle.buffer_core.proofs.SlotLaws.{split}
use Rattle.buffer_core.specs.Points.{Life, life_at, request_at, past_after, past_of}
use Rattle.buffer_core.specs.Delivered.{Throughout}
use Rattle.member_model.specs.OwnCalls.{calls_after, AreOwnCalls, IsOwnCall}
use Rattle.history_laws.specs.BufferLaws.{BufferLaws}
use Rattle.history_laws.specs.OneCaller.{HaveOwnClients}

-- Points behind points.

pub past_after-append : (past xs ys : List (ℕ × BufferEntry)) → past_after past (xs ++ ys) ≡ past_after (past_after past xs) ys
past_after-append past [] ys = refl
past_after-append past (x ∷ xs) ys = past_after-append (x ∷ past) xs ys

pub past_of-push : (xs : List (ℕ × BufferEntry)) (x : ℕ × BufferEntry) → past_of (xs ++ x ∷ []) ≡ x ∷ past_of xs
past_of-push xs x = past_after-append [] xs (x ∷ [])

pub legal_front : (w : Window) (xs ys : List (ℕ × BufferEntry)) → IsLegal w (xs ++ ys) → IsLegal w xs
legal_front w [] ys legal = tt
legal_front w (x ∷ xs) ys legal = (legal.0, legal_front (window_after w x.1) xs ys legal.1)

throughout_from : (P : List (ℕ × BufferEntry) → BufferEntry → Type 0) (size : ℕ) (before after : List (ℕ × BufferEntry))
    → ((xs ys : List (ℕ × BufferEntry)) (x : ℕ × BufferEntry) → IsLegal (opening size) (xs ++ x ∷ ys) → P (past_of xs) x.1)
    → IsLegal (opening size) (before ++ after) → Throughout P (past_of before) → Throughout P (past_after (past_of before) after)
throughout_from P size before [] each legal so_far = so_far
throughout_from P size before (x ∷ xs) each legal so_far =
    let pushed : past_of (before ++ x ∷ []) ≡ x ∷ past_of before = past_of-push before x in
    let here : P (past_of before) x.1 = each before xs x legal in
    let whole : IsLegal (opening size) ((before ++ x ∷ []) ++ xs) = subst (IsLegal (opening size)) (sym (append_assoc before (x ∷ []) xs)) legal in
    subst (λ (past : List (ℕ × BufferEntry)). Throughout P (past_after past xs)) pushed
    (throughout_from P size (before ++ x ∷ []) xs each whole (subst (Throughout P) (sym pushed) (here, so_far)))

-- what each entry of a legal history meets
pub throughout : (P : List (ℕ × BufferEntry) → BufferEntry → Type 0) (size : ℕ) (h : List (ℕ × BufferEntry))
    → ((xs ys : List (ℕ × BufferEntry)) (x : ℕ × BufferEntry) → IsLegal (opening size) (xs ++ x ∷ ys) → P (past_of xs) x.1)
    → IsLegal (opening size) h → Throughout P (past_of h)
throughout P size h each legal = throughout_from P size [] h each legal tt

pub throughout_front : (P : List (ℕ × BufferEntry) → BufferEntry → Type 0) (past es : List (ℕ × BufferEntry)) → Throughout P (past_after past es) → Throughout P past
throughout_front P past [] all = all
throughout_front P past (e ∷ es) all = (throughout_front P (e ∷ past) es all).1

-- What a reply tells at its point.
abbrev pub IsTold : List (ℕ × BufferEntry) → BufferEntry → Type 0
IsTold past (Attach name (Ok n)) = life_at past n ≡ None
IsTold past (Cancel client number (Err refusal)) = (life : Life) → life_at past client ≡ Some life → request_at past client number ≡ None
IsTold past entry = ⊤

told_at : (laws : BufferLaws) (size : ℕ) (xs ys : List (ℕ × BufferEntry)) (by : ℕ) (e : BufferEntry) → IsLegal (opening size) (xs ++ (by, e) ∷ ys) → IsTold (past_of xs) e
told_at laws size xs ys by (Attach name (Ok n)) legal = laws.numbers size xs ys by name n legal
told_at laws size xs ys by (Cancel client number (Err refusal)) legal = λ life lives. laws.cancels size xs ys by client number refusal life legal lives
told_at laws size xs ys by entry legal = tt

pub told : (laws : BufferLaws) (size : ℕ) (h : List (ℕ × BufferEntry)) → IsLegal (opening size) h → Throughout IsTold (past_of h)
told laws size h legal = throughout IsTold size h (λ xs ys x legal'. told_at laws size xs ys x.0 x.1 legal') legal

-- The entries of one caller.

abbrev entries_if : Bool → ℕ × BufferEntry → (rest : List (ℕ × BufferEntry)) → List BufferEntry
entries_if b x rest = map (λ (e : ℕ × BufferEntry). e.1) (if b then x ∷ rest else rest)

-- an entry is this caller's or another's
pub own_cases : (by : ℕ) (x : ℕ × BufferEntry) (xs : List (ℕ × BufferEntry)) (P : List BufferEntry → Type 0)
    → (x.0 ≡ by → P (x.1 ∷ entries_by by xs)) → (x.0 ≢ by → P (entries_by by xs)) → P (entries_by by (x ∷ xs))
own_cases by x xs P own other =
    split (x.0 == by) (λ b. (x.0 == by) ≡ b → P (entries_if b x (filter (λ (e : ℕ × BufferEntry). e.0 == by) xs)))
    (λ h e. own (eqb-true x.0 by e))
    (λ h e. other (eqb-false x.0 by e))
    refl

-- the entries before a point are, the latest first, those of the history
pub own_after : (by : ℕ) (past es : List (ℕ × BufferEntry)) → entries_by by (past_after past es) ≡ calls_after (entries_by by past) (entries_by by es)
own_after by past [] = refl
own_after by past (x ∷ xs) =
    own_after by (x ∷ past) xs
    ∙ split (x.0 == by)
    (λ b. calls_after (entries_if b x (filter (λ (e : ℕ × BufferEntry). e.0 == by) past)) (entries_by by xs) ≡ calls_after (entries_by by past) (entries_if b x (filter (λ (e : ℕ × BufferEntry). e.0 == by) xs)))
    (λ h. refl)
    (λ h. refl)

-- each caller names only clients of its own, and detaches none
abbrev pub OwnPast : List (ℕ × BufferEntry) → Type 0
OwnPast past = (by : ℕ) → AreOwnCalls (entries_by by past)

pub own_past : (h : List (ℕ × BufferEntry)) → HaveOwnClients h → OwnPast (past_of h)
own_past h own by = subst AreOwnCalls (sym (own_after by [] h)) (own by)

pub own_rest : (x : ℕ × BufferEntry) (past : List (ℕ × BufferEntry)) → OwnPast (x ∷ past) → OwnPast past
own_rest x past own by = own_cases by x past (λ es. AreOwnCalls es → AreOwnCalls (entries_by by past)) (λ h are. are.1) (λ h are. are) (own by)

pub own_front : (past es : List (ℕ × BufferEntry)) → OwnPast (past_after past es) → OwnPast past
own_front past [] own = own
own_front past (e ∷ es) own = own_rest e past (own_front (e ∷ past) es own)

pub own_call : (x : ℕ × BufferEntry) (past : List (ℕ × BufferEntry)) → OwnPast (x ∷ past) → IsOwnCall x.1 (entries_by x.0 past)
own_call x past own = own_cases x.0 x past (λ es. AreOwnCalls es → IsOwnCall x.1 (entries_by x.0 past)) (λ h are. are.0) (λ other are. absurd (other refl)) (own x.0)

-- Where a call of one caller stands in the history.

pub record StandsIn (h : List (ℕ × BufferEntry)) (by : ℕ) (xs : List BufferEntry) (e : BufferEntry) (ys : List BufferEntry) : Type 0 where
  pub before : List (ℕ × BufferEntry)
  pub after : List (ℕ × BufferEntry)
  pub whole : h ≡ before ++ (by, e) ∷ after
  pub own_before : entries_by by before ≡ xs
  pub own_after : entries_by by after ≡ ys

-- the history splits where the caller's calls do
pub record SplitsAt (h : List (ℕ × BufferEntry)) (by : ℕ) (xs ys : List BufferEntry) : Type 0 where
  pub before : List (ℕ × BufferEntry)
  pub after : List (ℕ × BufferEntry)
  pub whole : h ≡ before ++ after
  pub own_before : entries_by by before ≡ xs
  pub own_after : entries_by by after ≡ ys

pub entries_more : (by : ℕ) (x : ℕ × BufferEntry) (xs : List (ℕ × BufferEntry)) → x.0 ≡ by → entries_by by (x ∷ xs) ≡ x.1 ∷ entries_by by xs
entries_more by x xs same = own_cases by x xs (λ es. es ≡ x.1 ∷ entries_by by xs) (λ h. refl) (λ other. absurd (other same))

entries_same : (by : ℕ) (x : ℕ × BufferEntry) (xs : List (ℕ × BufferEntry)) → x.0 ≢ by → entries_by by (x ∷ xs) ≡ entries_by by xs
entries_same by x xs other = own_cases by x xs (λ es. es ≡ entries_by by xs) (λ same. absurd (other same)) (λ h. refl)

splits_later : (by : ℕ) (x : ℕ × BufferEntry) (h : List (ℕ × BufferEntry)) (xs ys : List BufferEntry) → x.0 ≢ by → SplitsAt h by xs ys → SplitsAt (x ∷ h) by xs ys
splits_later by x h xs ys other s =
    record {
      before = x ∷ s.before;
      after = s.after;
      whole = ap (λ (es : List (ℕ × BufferEntry)). x ∷ es) s.whole;
      own_before = entries_same by x s.before other ∙ s.own_before;
      own_after = s.own_after;
    }

splits_own : (by : ℕ) (x : ℕ × BufferEntry) (h : List (ℕ × BufferEntry)) (e : BufferEntry) (xs ys : List BufferEntry) → x.0 ≡ by → x.1 ≡ e → SplitsAt h by xs ys → SplitsAt (x ∷ h) by (e ∷ xs) ys
splits_own by x h e xs ys same is s =
    record {
      before = x ∷ s.before;
      after = s.after;
      whole = ap (λ (es : List (ℕ × BufferEntry)). x ∷ es) s.whole;
      own_before = entries_more by x s.before same ∙ (ap (λ (f : BufferEntry). f ∷ entries_by by s.before) is ∙ ap (λ (es : List BufferEntry). e ∷ es) s.own_before);
      own_after = s.own_after;
    }

pub splits : (by : ℕ) (h : List (ℕ × BufferEntry)) (xs ys : List BufferEntry) → entries_by by h ≡ xs ++ ys → SplitsAt h by xs ys
splits by h [] ys is = record { before = []; after = h; whole = refl; own_before = refl; own_after = is }
splits by [] (e ∷ xs) ys is = absurd (cc (is))
splits by (x ∷ h) (e ∷ xs) ys is =
    own_cases by x h (λ es. es ≡ e ∷ (xs ++ ys) → SplitsAt (x ∷ h) by (e ∷ xs) ys)
    (λ same here.
    let first : x.1 ≡ e = cc (here) in
    let rest : entries_by by h ≡ xs ++ ys = cc (here) in
    splits_own by x h e xs ys same first (splits by h xs ys rest))
    (λ other here. splits_later by x h (e ∷ xs) ys other (splits by h (e ∷ xs) ys here))
    is

stands_first : (by : ℕ) (h : List (ℕ × BufferEntry)) (e : BufferEntry) (ys : List BufferEntry) → entries_by by h ≡ e ∷ ys → StandsIn h by [] e ys
stands_first by [] e ys is = absurd (cc (is))
stands_first by (x ∷ h) e ys is =
    own_cases by x h (λ es. es ≡ e ∷ ys → StandsIn (x ∷ h) by [] e ys)
    (λ same here.
    let first : x.1 ≡ e = cc (here) in
    let rest : entries_by by h ≡ ys = cc (here) in
    let pair : x ≡ (by, e) = ap (λ (n : ℕ). (n, x.1)) same ∙ ap (λ (f : BufferEntry). (by, f)) first in
    record { before = []; after = h; whole = ap (λ (y : ℕ × BufferEntry). y ∷ h) pair; own_before = refl; own_after = rest })
    (λ other here.
    let s : StandsIn h by [] e ys = stands_first by h e ys here in
    record {
      before = x ∷ s.before;
      after = s.after;
      whole = ap (λ (es : List (ℕ × BufferEntry)). x ∷ es) s.whole;
      own_before = entries_same by x s.before other ∙ s.own_before;
      own_after = s.own_after;
    })
    is

pub stands : (by : ℕ) (h : List (ℕ × BufferEntry)) (xs : List BufferEntry) (e : BufferEntry) (ys : List BufferEntry) → entries_by by h ≡ xs ++ e ∷ ys → StandsIn h by xs e ys
stands by h xs e ys is =
    let s : SplitsAt h by xs (e ∷ ys) = splits by h xs (e ∷ ys) is in
    let t : StandsIn s.after by [] e ys = stands_first by s.after e ys s.own_after in
    record {
      before = s.before ++ t.before;
      after = t.after;
      whole = s.whole ∙ (ap (λ (es : List (ℕ × BufferEntry)). s.before ++ es) t.whole ∙ sym (append_assoc s.before t.before ((by, e) ∷ t.after)));
      own_before = entries_by-append by s.before t.before
          ∙ (ap (λ (es : List BufferEntry). es ++ entries_by by t.before) s.own_before ∙ (ap (λ (es : List BufferEntry). xs ++ es) t.own_before ∙ append-nil xs));
      own_after = t.own_after;
    }
