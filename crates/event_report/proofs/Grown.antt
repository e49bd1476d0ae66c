-- What one more thing makes of the rows and of the count of the rest.
use Rattle.std.proofs.Common.{◌≡◌, ℕ, ◌+◌, Bool, true, false, not, eqb, ltb, List, [], ◌∷◌, ◌++◌, length, map, refl, sym, ap, ◌∙◌, arith, inl, inr, zero-add}
use Rattle.std.specs.Prelude.{◌||◌, count_by}
use Rattle.std.proofs.lemmas.Bool.{cases_lt, lt-ltb, le-ltb, eq-eqb}
use Rattle.std.proofs.lemmas.List.{length-map}
use Rattle.std.proofs.lemmas.List.Sums.{sum_by-append, sum_by-cons}
use Rattle.std.proofs.lemmas.List.Folds.{list_any-append}
use Rattle.event_report.specs.Listing.{row_limit, has, listed, rest_count}
use Rattle.transitions.specs.Placing.{placed, in_order}
use Rattle.event_report.specs.Steps.{takes, changed_row, rows_with, rest_after}
use Rattle.event_report.proofs.Listed.{bit, true_or_false, both_false, eqb_flip, there_if_listed, new_if_short, listed_known, listed_new, listed_full, has_in_order, length_in_order, in_order_more}

has_map : {A R : Type 0} (number : A → ℕ) (rnum : R → ℕ) (f : A → R) (n : ℕ) (same : (a : A) → rnum (f a) ≡ number a) (xs : List A) → has rnum n (map f xs) ≡ has number n xs
has_map number rnum f n same [] = refl
has_map number rnum f n same (x ∷ xs) = let e = same x in rw (e, has_map number rnum f n same xs) refl

map_placed : {A R : Type 0} (number : A → ℕ) (rnum : R → ℕ) (f : A → R) (same : (a : A) → rnum (f a) ≡ number a) (x : A) (ys : List A) → placed rnum (f x) (map f ys) ≡ map f (placed number x ys)
map_placed number rnum f same x [] = refl
map_placed number rnum f same x (y ∷ ys) =
    let x_is = same x in
    let y_is = same y in
    elim (true_or_false (ltb (number x) (number y))) [
      | inl less ↦ rw (x_is, y_is, less) refl
      | inr not_less ↦ rw (x_is, y_is, not_less) (ap (λ zs. f y ∷ zs) (map_placed number rnum f same x ys))
    ]

-- what every row becomes
pub record Becomes {A R : Type 0} (number : A → ℕ) (rnum : R → ℕ) (old new : A → R) (n : ℕ) (change : R → R) : Type 0 where
  pub old_number : (a : A) → rnum (old a) ≡ number a
  pub new_number : (a : A) → rnum (new a) ≡ number a
  pub other : (a : A) → eqb (number a) n ≡ false → new a ≡ old a

map_others : {A R : Type 0} (number : A → ℕ) (rnum : R → ℕ) (old new : A → R) (n : ℕ) (change : R → R) → Becomes number rnum old new n change
    → (xs : List A) → has number n xs ≡ false → map new xs ≡ map old xs
map_others number rnum old new n change becomes [] none = refl
map_others number rnum old new n change becomes (x ∷ xs) none =
    let parts = both_false (eqb (number x) n) (has number n xs) none in
    let first = becomes.other x parts.0 in
    rw (first, map_others number rnum old new n change becomes xs parts.1) refl

map_changed : {A R : Type 0} (number : A → ℕ) (rnum : R → ℕ) (old new : A → R) (n : ℕ) (change : R → R) → Becomes number rnum old new n change
    → ((a : A) → eqb (number a) n ≡ true → new a ≡ change (old a)) → (xs : List A) → map (changed_row rnum n change) (map old xs) ≡ map new xs
map_changed number rnum old new n change becomes same [] = refl
map_changed number rnum old new n change becomes same (x ∷ xs) =
    let x_is = becomes.old_number x in
    let rest = map_changed number rnum old new n change becomes same xs in
    elim (true_or_false (eqb (number x) n)) [
      | inl here ↦ let first = same x here in rw (x_is, here, first, rest) refl
      | inr ne ↦ let first = becomes.other x ne in rw (x_is, ne, first, rest) refl
    ]

abbrev pub rows_of : {A R : Type 0} → (A → ℕ) → (A → R) → List A → List R
rows_of number row xs = map row (in_order number (listed number xs))

has_rows : {A R : Type 0} (number : A → ℕ) (rnum : R → ℕ) (f : A → R) (n : ℕ) (same : (a : A) → rnum (f a) ≡ number a) (xs : List A)
    → has rnum n (rows_of number f xs) ≡ has number n (listed number xs)
has_rows number rnum f n same xs = has_map number rnum f n same (in_order number (listed number xs)) ∙ has_in_order number n (listed number xs)

length_rows : {A R : Type 0} (number : A → ℕ) (f : A → R) (xs : List A) → length (rows_of number f xs) ≡ length (listed number xs)
length_rows number f xs = length-map (in_order number (listed number xs)) f ∙ length_in_order number (listed number xs)

-- the rows of one thing more
pub rows_more : {A R : Type 0} (number : A → ℕ) (rnum : R → ℕ) (old new : A → R) (change : R → R) (fresh : R) (xs : List A) (y : A)
    → Becomes number rnum old new (number y) change
    → (has number (number y) xs ≡ true → (a : A) → eqb (number a) (number y) ≡ true → new a ≡ change (old a))
    → (has number (number y) xs ≡ false → new y ≡ fresh)
    → rows_with rnum (number y) change fresh (rows_of number old xs) ≡ rows_of number new (xs ++ y ∷ [])
rows_more number rnum old new change fresh xs y becomes same first =
    let n : ℕ = number y in
    let ls = listed number xs in
    let there = has_rows number rnum old n becomes.old_number xs in
    let long = length_rows number old xs in
    elim (true_or_false (has number n ls)) [
      | inl known ↦
          let e = there ∙ known in
          rw e (map_changed number rnum old new n change becomes (same (there_if_listed number n xs known)) (in_order number ls)
          ∙ ap (λ zs. map new (in_order number zs)) (sym (listed_known number xs y known)))
      | inr none ↦
          let e = there ∙ none in
          let unchanged : map new (in_order number ls) ≡ map old (in_order number ls) =
          map_others number rnum old new n change becomes (in_order number ls) (has_in_order number n ls ∙ none) in
          elim (cases_lt (length ls) row_limit) [
            | inl short ↦
                let room : ltb (length (rows_of number old xs)) row_limit ≡ true = lt-ltb _ _ (omega (arith, long, short)) in
                let new_is = first (new_if_short number n xs none short) in
                rw (e, room) (ap (λ r. placed rnum r (map old (in_order number ls))) (sym new_is)
                ∙ ap (λ zs. placed rnum (new y) zs) (sym unchanged)
                ∙ map_placed number rnum new becomes.new_number y (in_order number ls)
                ∙ ap (map new) (sym (in_order_more number ls y))
                ∙ ap (λ zs. map new (in_order number zs)) (sym (listed_new number xs y none short)))
            | inr full ↦
                let no_room : ltb (length (rows_of number old xs)) row_limit ≡ false = le-ltb _ _ (omega (arith, long, full)) in
                rw (e, no_room) (sym unchanged ∙ ap (λ zs. map new (in_order number zs)) (sym (listed_full number xs y full)))
          ]
    ]

-- ---- the rest

abbrev unlisted : {A : Type 0} → (A → ℕ) → List A → A → Bool
unlisted number ls x = not (has number (number x) ls)

has_end : {A : Type 0} (number : A → ℕ) (ls : List A) (y : A) (n : ℕ) → eqb (number y) n ≡ false → has number n (ls ++ y ∷ []) ≡ has number n ls
has_end {A} number ls y n ne = list_any-append (λ (z : A). eqb (number z) n) ls (y ∷ []) ∙ no_more (has number n ls) (eqb (number y) n) ne
  where
    no_more : (a b : Bool) → b ≡ false → (a || (b || false)) ≡ a
    no_more true b e = refl
    no_more false b e = rw e refl

last_is : (a : Bool) (n : ℕ) → (a || (eqb n n || false)) ≡ true
last_is a n = let same : eqb n n ≡ true = eq-eqb n n refl in rw same (or_true a)
  where
    or_true : (a : Bool) → (a || true) ≡ true
    or_true true = refl
    or_true false = refl

count_other : {A : Type 0} (number : A → ℕ) (ls : List A) (y : A) (xs : List A) → has number (number y) xs ≡ false
    → count_by (unlisted number (ls ++ y ∷ [])) xs ≡ count_by (unlisted number ls) xs
count_other number ls y [] new = refl
count_other {A} number ls y (x ∷ xs) new =
    let parts = both_false (eqb (number x) (number y)) (has number (number y) xs) new in
    let one : unlisted number (ls ++ y ∷ []) x ≡ unlisted number ls x = ap not (has_end number ls y (number x) (eqb_flip (number x) (number y) parts.0)) in
    sum_by-cons (λ (z : A). bit (unlisted number (ls ++ y ∷ []) z)) x xs
    ∙ ap (λ (b : Bool). bit b + count_by (unlisted number (ls ++ y ∷ [])) xs) one
    ∙ ap (λ (k : ℕ). bit (unlisted number ls x) + k) (count_other number ls y xs parts.1)
    ∙ sym (sum_by-cons (λ (z : A). bit (unlisted number ls z)) x xs)

-- the count of the rest with one thing more
pub rest_more : {A R : Type 0} (number : A → ℕ) (rnum : R → ℕ) (row : A → R) (xs : List A) (y : A) → ((a : A) → rnum (row a) ≡ number a)
    → rest_after (takes rnum (number y) (rows_of number row xs)) (rest_count number xs) ≡ rest_count number (xs ++ y ∷ [])
rest_more {A} number rnum row xs y same =
    let n : ℕ = number y in
    let ls : List A = listed number xs in
    let there = has_rows number rnum row n same xs in
    let long = length_rows number row xs in
    let split : (zs : List A) → count_by (unlisted number zs) (xs ++ y ∷ []) ≡ count_by (unlisted number zs) xs + bit (unlisted number zs y) =
    λ zs. sum_by-append (λ (z : A). bit (unlisted number zs z)) xs (y ∷ []) ∙ ap (λ (k : ℕ). count_by (unlisted number zs) xs + k) (zero-add (bit (unlisted number zs y))) in
    elim (true_or_false (has number n ls)) [
      | inl known ↦
          let e = there ∙ known in
          let none : bit (unlisted number ls y) ≡ 0 = rw known refl in
          rw e (sym (ap (λ (zs : List A). count_by (unlisted number zs) (xs ++ y ∷ [])) (listed_known number xs y known) ∙ split ls ∙ omega (arith, none)))
      | inr none ↦
          let e = there ∙ none in
          elim (cases_lt (length ls) row_limit) [
            | inl short ↦
                let room : ltb (length (rows_of number row xs)) row_limit ≡ true = lt-ltb _ _ (omega (arith, long, short)) in
                let new = new_if_short number n xs none short in
                let now : has number n (ls ++ y ∷ []) ≡ true = list_any-append (λ (z : A). eqb (number z) n) ls (y ∷ []) ∙ last_is (has number n ls) n in
                let zero_more : bit (unlisted number (ls ++ y ∷ []) y) ≡ 0 = rw now refl in
                rw (e, room) (sym (ap (λ (zs : List A). count_by (unlisted number zs) (xs ++ y ∷ [])) (listed_new number xs y none short) ∙ split (ls ++ y ∷ [])
                ∙ omega (arith, zero_more, count_other number ls y xs new)))
            | inr full ↦
                let no_room : ltb (length (rows_of number row xs)) row_limit ≡ false = le-ltb _ _ (omega (arith, long, full)) in
                let one : bit (unlisted number ls y) ≡ 1 = rw none refl in
                rw (e, no_room) (sym (ap (λ (zs : List A). count_by (unlisted number zs) (xs ++ y ∷ [])) (listed_full number xs y full) ∙ split ls ∙ omega (arith, one)))
          ]
    ]
