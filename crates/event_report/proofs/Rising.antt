-- Rows by rising numbers: where one is found, and what a change or one more row leaves.
use Rattle.std.proofs.Common.{◌≡◌, ℕ, zero, suc, ◌+◌, ◌-◌, ◌<◌, ◌≤◌, ◌≢◌, Bool, true, false, eqb, ltb, List, [], ◌∷◌, length, get_or, take, drop, map, Result, Ok, Err, MatchResult, refl, sym, ap, subst, ◌∙◌, arith, inl, inr}
use Rattle.std.specs.Prelude.{◌||◌, All, slice_set, insert, vec_len, vec_capacity}
use Rattle.std.specs.Global.{Vec}
use Rattle.std.specs.Vec.{with_item}
use Rattle.std.proofs.Math.ListN.{length-set}
use Rattle.std.specs.Ordering.{nat_cmp, ordering_index, MatchOrdering}
use Rattle.std.specs.declared.cmp.Ordering.{Ordering}
use Rattle.std.specs.declared.cmp.Ordering.TheVariants.{Less, Equal, Greater}
use Rattle.std.specs.Cmp.{ranked}
use Rattle.std.specs.List.Sorted.{IsBinarySearchResult, IsSearchInRange, IsNonDecreasingBy}
use Rattle.std.proofs.lemmas.Bool.{cases_lt, cases_eq, lt-ltb, le-ltb, eq-eqb}
use Rattle.std.proofs.lemmas.Bool.Decides.{eqb_tells}
use Rattle.std.proofs.lemmas.List.{get_or-set_same, get_or-set_other}
use Rattle.std.proofs.lemmas.List.Edits.{length-insert, get_or-insert_at, get_or-insert_below, get_or-insert_above}
use Rattle.std.proofs.lemmas.List.Elements.{All-append, All-take, All-drop, All-cons}
use Rattle.event_report.specs.Listing.{row_limit, has}
use Rattle.transitions.specs.Placing.{placed}
use Rattle.event_report.specs.Steps.{takes, changed_row, rows_with}
use Rattle.event_report.specs.Held.{IsRising, IsTable}
use Rattle.event_report.specs.Found.{IsRowAt, FitsAt}

pub unequal : (a b : ℕ) → a ≢ b → eqb a b ≡ false
unequal a b ne = elim (eqb_tells a b) [ inl h ↦ absurd (ne h.1) | inr h ↦ h.0 ]

-- ---- the search

equal_if : (a b : ℕ) (r : Ordering) → r ≡ nat_cmp a b → r ≡ Equal → a ≡ b
equal_if a b r is e = subst (λ (o : Ordering). MatchOrdering o (a < b) (a ≡ b) (b < a)) e (ranked a b r is)

less_if : (a b : ℕ) (r : Ordering) → r ≡ nat_cmp a b → r ≡ Less → a < b
less_if a b r is e = subst (λ (o : Ordering). MatchOrdering o (a < b) (a ≡ b) (b < a)) e (ranked a b r is)

greater_if : (a b : ℕ) (r : Ordering) → r ≡ nat_cmp a b → r ≡ Greater → b < a
greater_if a b r is e = subst (λ (o : Ordering). MatchOrdering o (a < b) (a ≡ b) (b < a)) e (ranked a b r is)

index_rises : (a b n : ℕ) (r s : Ordering) → a ≤ b → MatchOrdering r (a < n) (a ≡ n) (n < a) → MatchOrdering s (b < n) (b ≡ n) (n < b) → ordering_index r ≤ ordering_index s
index_rises a b n Less s le p q = omega arith
index_rises a b n Equal Less le p q = absurd (omega arith)
index_rises a b n Equal Equal le p q = omega arith
index_rises a b n Equal Greater le p q = omega arith
index_rises a b n Greater Less le p q = absurd (omega arith)
index_rises a b n Greater Equal le p q = absurd (omega arith)
index_rises a b n Greater Greater le p q = omega arith

rising_le : {R : Type 0} (number : R → ℕ) (rows : List R) → IsRising number rows → (i j : ℕ) (d : R) → i ≤ j → j < length rows → number (get_or rows i d) ≤ number (get_or rows j d)
rising_le number rows up i j d le below =
    elim (cases_eq i j) [
      | inl e ↦ let h : number (get_or rows i d) ≡ number (get_or rows j d) = ap (λ (k : ℕ). number (get_or rows k d)) e in omega arith
      | inr ne ↦ let lt : i < j = omega arith in let h = up i j d lt below in omega arith
    ]

searchable : {R : Type 0} (number : R → ℕ) (n : ℕ) (rows : List R) → IsRising number rows → IsNonDecreasingBy (λ y. ordering_index (nat_cmp (number y) n)) rows
searchable number n rows up i j d le below =
    let a : ℕ = number (get_or rows i d) in
    let b : ℕ = number (get_or rows j d) in
    index_rises a b n (nat_cmp a n) (nat_cmp b n) (rising_le number rows up i j d le below) (ranked a n (nat_cmp a n) refl) (ranked b n (nat_cmp b n) refl)

-- what the search answers
pub found_or_fits : {R : Type 0} (number : R → ℕ) (n : ℕ) (rows : List R) (r : Result ℕ ℕ) → IsRising number rows
    → IsBinarySearchResult (λ y. nat_cmp (number y) n) rows r → IsSearchInRange r (length rows)
    → MatchResult r (IsRowAt number n rows) (FitsAt number n rows)
found_or_fits number n rows (Ok i) up is range =
    record { below = range; is = λ d. equal_if (number (get_or rows i d)) n _ refl (is d) }
found_or_fits number n rows (Err i) up is range =
    let at = is (searchable number n rows up) in
    record {
      within = range;
      before = λ k d h. less_if (number (get_or rows k d)) n _ refl (at.0 k d (omega arith) h);
      behind = λ k d h h'. greater_if (number (get_or rows k d)) n _ refl (at.1 k d h h');
    }

-- ---- one row changed

rising_tail : {R : Type 0} (number : R → ℕ) (r : R) (rows : List R) → IsRising number (r ∷ rows) → IsRising number rows
rising_tail number r rows up i j d lt below = up (suc i) (suc j) d (omega arith) (omega arith)

pub unchanged : {R : Type 0} (number : R → ℕ) (n : ℕ) (change : R → R) (rows : List R) → ((k : ℕ) (d : R) → k < length rows → number (get_or rows k d) ≢ n)
    → map (changed_row number n change) rows ≡ rows
unchanged number n change [] ne = refl
unchanged number n change (r ∷ rows) ne =
    let first : eqb (number r) n ≡ false = unequal _ _ (ne 0 r (omega arith)) in
    rw first (ap (λ rs. r ∷ rs) (unchanged number n change rows (λ k d h. ne (suc k) d (omega arith))))

changed_at : {R : Type 0} (number : R → ℕ) (n : ℕ) (change : R → R) (rows : List R) (at : ℕ) (v d : R) → IsRising number rows → at < length rows
    → number (get_or rows at d) ≡ n → v ≡ change (get_or rows at d) → slice_set rows at v ≡ map (changed_row number n change) rows
changed_at number n change [] at v d up below is v-is = absurd (omega arith)
changed_at number n change (r ∷ rows) zero v d up below is v-is =
    let first : eqb (number r) n ≡ true = eq-eqb _ _ is in
    let others : map (changed_row number n change) rows ≡ rows =
    unchanged number n change rows (λ k e h same. let above = up 0 (suc k) e (omega arith) (omega arith) in omega (arith, above, same, is)) in
    rw (first, others, v-is) refl
changed_at number n change (r ∷ rows) (suc at) v d up below is v-is =
    let above : number r < number (get_or rows at d) = up 0 (suc at) d (omega arith) (omega arith) in
    let first : eqb (number r) n ≡ false = unequal _ _ (λ same. omega (arith, above, same, is)) in
    rw first (ap (λ rs. r ∷ rs) (changed_at number n change rows at v d (rising_tail number r rows up) (omega arith) is v-is))

number_set : {R : Type 0} (number : R → ℕ) (rows : List R) (at k : ℕ) (v d : R) → at < length rows → number v ≡ number (get_or rows at d) → number (get_or (slice_set rows at v) k d) ≡ number (get_or rows k d)
number_set number rows at k v d below same =
    elim (cases_eq k at) [
      | inl e ↦ ap (λ (j : ℕ). number (get_or (slice_set rows at v) j d)) e ∙ ap number (get_or-set_same rows at v d below) ∙ same ∙ ap (λ (j : ℕ). number (get_or rows j d)) (sym e)
      | inr ne ↦ ap number (get_or-set_other rows at k v d ne)
    ]

pub rising_set : {R : Type 0} (number : R → ℕ) (rows : List R) (at : ℕ) (v : R) → IsRising number rows → at < length rows → ((d : R) → number v ≡ number (get_or rows at d))
    → length (slice_set rows at v) ≡ length rows → IsRising number (slice_set rows at v)
rising_set number rows at v up below same long i j d lt in_list =
    let i_is = number_set number rows at i v d below (same d) in
    let j_is = number_set number rows at j v d below (same d) in
    let h = up i j d lt (omega arith) in
    omega (arith, i_is, j_is, h)

-- ---- one row more

placed_at : {R : Type 0} (number : R → ℕ) (rows : List R) (at : ℕ) (x : R) → FitsAt number (number x) rows at → insert rows at x ≡ placed number x rows
placed_at number [] zero x fits = refl
placed_at number [] (suc at) x fits = absurd (omega (arith, fits.within))
placed_at number (y ∷ ys) zero x fits =
    let first : ltb (number x) (number y) ≡ true = lt-ltb _ _ (fits.behind 0 y (omega arith) (omega arith)) in
    rw first refl
placed_at number (y ∷ ys) (suc at) x fits =
    let before = fits.before 0 y (omega arith) in
    let first : ltb (number x) (number y) ≡ false = le-ltb _ _ (omega (arith, before)) in
    rw first (ap (λ zs. y ∷ zs) (placed_at number ys at x (record {
      within = omega (arith, fits.within);
      before = λ k d h. fits.before (suc k) d (omega arith);
      behind = λ k d h h'. fits.behind (suc k) d (omega arith) (omega arith);
    })))

in_front : {R : Type 0} (number : R → ℕ) (rows : List R) (at : ℕ) (x d : R) (k : ℕ) → k < at → at ≤ length rows → number (get_or (insert rows at x) k d) ≡ number (get_or rows k d)
in_front number rows at x d k lt within = ap number (get_or-insert_below rows at x d k lt within)

in_place : {R : Type 0} (number : R → ℕ) (rows : List R) (at : ℕ) (x d : R) (k : ℕ) → k ≡ at → at ≤ length rows → number (get_or (insert rows at x) k d) ≡ number x
in_place number rows at x d k e within = ap (λ (m : ℕ). number (get_or (insert rows at x) m d)) e ∙ ap number (get_or-insert_at rows at x d within)

further : {R : Type 0} (number : R → ℕ) (rows : List R) (at : ℕ) (x d : R) (m k : ℕ) → m ≡ k + 1 → at ≤ k → at ≤ length rows → number (get_or (insert rows at x) m d) ≡ number (get_or rows k d)
further number rows at x d m k e le within = ap (λ (n : ℕ). number (get_or (insert rows at x) n d)) e ∙ ap number (get_or-insert_above rows at x d k le within)

rising_behind : {R : Type 0} (number : R → ℕ) (rows : List R) (at : ℕ) (x : R) → IsRising number rows → FitsAt number (number x) rows at
    → (i j : ℕ) (d : R) → i < j → at < j → j < length rows + 1 → number (get_or (insert rows at x) i d) < number (get_or (insert rows at x) j d)
rising_behind number rows at x up fits i j d lt from in_list =
    let j_is = further number rows at x d j (j - 1) (omega arith) (omega arith) fits.within in
    let behind = fits.behind (j - 1) d (omega arith) (omega arith) in
    elim (cases_lt i at) [
      | inl below ↦
          let i_is = in_front number rows at x d i below fits.within in
          let before = fits.before i d below in
          omega (arith, i_is, j_is, before, behind)
      | inr not_below ↦ elim (cases_eq i at) [
        | inl e ↦ let i_is = in_place number rows at x d i e fits.within in omega (arith, i_is, j_is, behind)
        | inr ne ↦
            let i_is = further number rows at x d i (i - 1) (omega arith) (omega arith) fits.within in
            let h = up (i - 1) (j - 1) d (omega arith) (omega arith) in
            omega (arith, i_is, j_is, h)
      ]
    ]

pub rising_insert : {R : Type 0} (number : R → ℕ) (rows : List R) (at : ℕ) (x : R) → IsRising number rows → FitsAt number (number x) rows at
    → length (insert rows at x) ≡ length rows + 1 → IsRising number (insert rows at x)
rising_insert number rows at x up fits long i j d lt in_list =
    elim (cases_lt at j) [
      | inl from ↦ rising_behind number rows at x up fits i j d lt from (omega (arith, long))
      | inr up_to ↦
          let within = fits.within in
          let i_is = in_front number rows at x d i (omega arith) within in
          elim (cases_eq j at) [
            | inl e ↦
                let j_is = in_place number rows at x d j e within in
                let before = fits.before i d (omega arith) in
                omega (arith, i_is, j_is, before)
            | inr ne ↦
                let j_is = in_front number rows at x d j (omega arith) within in
                let h = up i j d lt (omega arith) in
                omega (arith, i_is, j_is, h)
          ]
    ]

-- ---- whether there is a row, and what is then made of the rows

or_true : (b : Bool) → (b || true) ≡ true
or_true true = refl
or_true false = refl

has_at : {R : Type 0} (number : R → ℕ) (n : ℕ) (rows : List R) (at : ℕ) → IsRowAt number n rows at → has number n rows ≡ true
has_at number n [] at stands = absurd (omega (arith, stands.below))
has_at number n (r ∷ rows) zero stands = let e : eqb (number r) n ≡ true = eq-eqb _ _ (stands.is r) in rw e refl
has_at number n (r ∷ rows) (suc at) stands =
    let more : has number n rows ≡ true = has_at number n rows at (record { below = omega (arith, stands.below); is = λ d. stands.is d }) in
    rw more (or_true (eqb (number r) n))

pub has_none : {R : Type 0} (number : R → ℕ) (n : ℕ) (rows : List R) → ((k : ℕ) (d : R) → k < length rows → number (get_or rows k d) ≢ n) → has number n rows ≡ false
has_none number n [] ne = refl
has_none number n (r ∷ rows) ne =
    let first : eqb (number r) n ≡ false = unequal _ _ (ne 0 r (omega arith)) in
    rw first (has_none number n rows (λ k d h. ne (suc k) d (omega arith)))

not_there : {R : Type 0} (number : R → ℕ) (n : ℕ) (rows : List R) (at : ℕ) → FitsAt number n rows at → has number n rows ≡ false
not_there number n rows at fits =
    has_none number n rows (λ k d h same. elim (cases_lt k at) [
      | inl below ↦ let before = fits.before k d below in omega (arith, before, same)
      | inr from ↦ let behind = fits.behind k d from h in omega (arith, behind, same)
    ])

-- a row that was found is changed
pub takes_found : {R : Type 0} (number : R → ℕ) (n : ℕ) (rows : List R) (at : ℕ) → IsRowAt number n rows at → takes number n rows ≡ true
takes_found number n rows at stands = let e = has_at number n rows at stands in rw e refl

pub after_found : {R : Type 0} (number : R → ℕ) (n : ℕ) (change : R → R) (fresh : R) (rows : List R) (at : ℕ) (v d : R) → IsRising number rows → IsRowAt number n rows at
    → v ≡ change (get_or rows at d) → slice_set rows at v ≡ rows_with number n change fresh rows
after_found number n change fresh rows at v d up stands is =
    let e = has_at number n rows at stands in
    rw e (changed_at number n change rows at v d up stands.below (stands.is d) is)

-- a row that was not found is put where it fits
pub takes_placed : {R : Type 0} (number : R → ℕ) (n : ℕ) (rows : List R) (at : ℕ) → FitsAt number n rows at → length rows < row_limit → takes number n rows ≡ true
takes_placed number n rows at fits room =
    let e = not_there number n rows at fits in
    let lt : ltb (length rows) row_limit ≡ true = lt-ltb _ _ room in
    rw (e, lt) refl

pub after_placed : {R : Type 0} (number : R → ℕ) (change : R → R) (fresh : R) (rows : List R) (at : ℕ) → FitsAt number (number fresh) rows at → length rows < row_limit
    → insert rows at fresh ≡ rows_with number (number fresh) change fresh rows
after_placed number change fresh rows at fits room =
    let e = not_there number (number fresh) rows at fits in
    let lt : ltb (length rows) row_limit ≡ true = lt-ltb _ _ room in
    rw (e, lt) (placed_at number rows at fresh fits)

-- or left out, where there is no room
pub takes_full : {R : Type 0} (number : R → ℕ) (n : ℕ) (rows : List R) (at : ℕ) → FitsAt number n rows at → row_limit ≤ length rows → takes number n rows ≡ false
takes_full number n rows at fits full =
    let e = not_there number n rows at fits in
    let lt : ltb (length rows) row_limit ≡ false = le-ltb _ _ full in
    rw (e, lt) refl

pub after_full : {R : Type 0} (number : R → ℕ) (n : ℕ) (change : R → R) (fresh : R) (rows : List R) (at : ℕ) → FitsAt number n rows at → row_limit ≤ length rows
    → rows ≡ rows_with number n change fresh rows
after_full number n change fresh rows at fits full =
    let e = not_there number n rows at fits in
    let lt : ltb (length rows) row_limit ≡ false = le-ltb _ _ full in
    rw (e, lt) refl

-- ---- tables

-- a table with one of its rows changed, and one with a row more
pub table_set : {R : Type 0} (number : R → ℕ) (rows : Vec R) (at : ℕ) (v : R) → IsTable number rows → at < length rows.items → ((d : R) → number v ≡ number (get_or rows.items at d)) → IsTable number (with_item rows at v)
table_set number rows at v table below same =
    record {
      rising = rising_set number rows.items at v table.rising below same (length-set rows.items at v);
      counted = table.counted ∙ sym (length-set rows.items at v);
      most = table.most;
      room = table.room;
    }

pub table_insert : {R : Type 0} (number : R → ℕ) (rows new : Vec R) (at : ℕ) (x : R) → IsTable number rows → FitsAt number (number x) rows.items at → vec_len rows < row_limit
    → new.items ≡ insert rows.items at x → vec_len new ≡ vec_len rows + 1 → vec_capacity rows ≤ vec_capacity new → IsTable number new
table_insert {R} number rows new at x table fits room is len capacity =
    let within = fits.within in
    let long = length-insert rows.items at x within in
    let counted = table.counted in
    record {
      rising = subst (λ (xs : List R). IsRising number xs) (sym is) (rising_insert number rows.items at x table.rising fits long);
      counted = len ∙ ap (λ n. n + 1) counted ∙ sym long ∙ ap length (sym is);
      most = omega (arith, len, room);
      room = omega (arith, capacity, table.room);
    }

pub All-insert : {R : Type 0} (P : R → Type 0) (rows : List R) (at : ℕ) (x : R) → All P rows → P x → All P (insert rows at x)
All-insert P rows at x all one = All-append P (take at rows) (x ∷ drop at rows) (All-take P at rows all) (All-cons P x (drop at rows) one (All-drop P at rows all))

-- a copy of a table is one
pub table_copied : {R : Type 0} (number : R → ℕ) (rows new : Vec R) → IsTable number rows → new.items ≡ rows.items → vec_len new ≡ vec_len rows → row_limit ≤ vec_capacity new → IsTable number new
table_copied number rows new table is len room = record {
  rising = subst (IsRising number) (sym is) table.rising;
  counted = len ∙ (table.counted ∙ ap length (sym is));
  most = omega (arith, table.most);
  room = room;
}
