-- Which things have a row when one more comes.
use Rattle.std.proofs.Common.{◌≡◌, ℕ, zero, suc, ◌+◌, ◌<◌, ◌≤◌, Bool, true, false, not, cond, eqb, ltb, List, [], ◌∷◌, ◌++◌, length, take, filter, fold, refl, sym, ap, ◌∙◌, arith, inl, inr, length-append}
use Rattle.std.specs.Prelude.{◌||◌, ◌⊎◌}
use Rattle.std.proofs.lemmas.Bool.{eq-eqb, eqb-true, eqb-false}
use Rattle.std.proofs.lemmas.List.{append-nil}
use Rattle.std.proofs.lemmas.List.Elements.{filter-append}
use Rattle.std.proofs.lemmas.List.Sums.{fold-append}
use Rattle.event_report.specs.Listing.{row_limit, has, firsts, listed}
use Rattle.transitions.specs.Placing.{placed, in_order}
use Rattle.event_report.proofs.Rising.{unequal}

-- 1 where it is so, and 0 else
abbrev pub bit : Bool → ℕ
bit b = cond b 1 0

pub true_or_false : (b : Bool) → (b ≡ true) ⊎ (b ≡ false)
true_or_false true = inl refl
true_or_false false = inr refl

pub both_false : (a b : Bool) → (a || b) ≡ false → (a ≡ false) × (b ≡ false)
both_false false false e = (refl, refl)
both_false false true e = absurd cc
both_false true b e = absurd cc

or_false : (a : Bool) → (a || false) ≡ true → a ≡ true
or_false true e = refl
or_false false e = e

or_swap : (a b c : Bool) → ((a || b) || c) ≡ (b || (a || c))
or_swap true true c = refl
or_swap true false c = refl
or_swap false true c = refl
or_swap false false c = refl

or_right : (a b : Bool) → b ≡ true → (a || b) ≡ true
or_right true b e = refl
or_right false b e = e

or_left : (a b : Bool) → a ≡ true → (a || b) ≡ true
or_left a b e = rw e refl

pub eqb_flip : (a b : ℕ) → eqb a b ≡ false → eqb b a ≡ false
eqb_flip a b e = unequal b a (λ same. eqb-false a b e (sym same))

-- ---- the first of each number

has_filter : {A : Type 0} (number : A → ℕ) (n : ℕ) (x : A) (xs : List A) → eqb (number x) n ≡ false
    → has number n (filter (λ y. not (eqb (number y) (number x))) xs) ≡ has number n xs
has_filter number n x [] ne = refl
has_filter number n x (y ∷ ys) ne =
    elim (true_or_false (eqb (number y) (number x))) [
      | inl same ↦
          let first : eqb (number y) n ≡ false = unequal _ _ (λ e. eqb-false _ _ ne (sym (eqb-true _ _ same) ∙ e)) in
          rw (same, first) (has_filter number n x ys ne)
      | inr other ↦ rw other (ap (λ b. eqb (number y) n || b) (has_filter number n x ys ne))
    ]

pub has_firsts : {A : Type 0} (number : A → ℕ) (n : ℕ) (xs : List A) → has number n (firsts number xs) ≡ has number n xs
has_firsts number n [] = refl
has_firsts number n (x ∷ xs) =
    elim (true_or_false (eqb (number x) n)) [
      | inl same ↦ rw same refl
      | inr ne ↦ rw ne (has_filter number n x (firsts number xs) ne ∙ has_firsts number n xs)
    ]

-- a number that is new stands at the end
pub firsts_new : {A : Type 0} (number : A → ℕ) (xs : List A) (y : A) → has number (number y) xs ≡ false → firsts number (xs ++ y ∷ []) ≡ firsts number xs ++ y ∷ []
firsts_new number [] y new = refl
firsts_new {A} number (x ∷ xs) y new =
    let parts = both_false (eqb (number x) (number y)) (has number (number y) xs) new in
    let p : A → Bool = λ z. not (eqb (number z) (number x)) in
    let kept : eqb (number y) (number x) ≡ false = eqb_flip (number x) (number y) parts.0 in
    let one : filter p (y ∷ []) ≡ y ∷ [] = rw kept refl in
    ap (λ zs. x ∷ filter p zs) (firsts_new number xs y parts.1)
    ∙ ap (λ zs. x ∷ zs) (filter-append p (firsts number xs) (y ∷ []) ∙ ap (λ zs. filter p (firsts number xs) ++ zs) one)

-- one that was there changes nothing
pub firsts_known : {A : Type 0} (number : A → ℕ) (xs : List A) (y : A) → has number (number y) xs ≡ true → firsts number (xs ++ y ∷ []) ≡ firsts number xs
firsts_known number [] y known = absurd cc
firsts_known {A} number (x ∷ xs) y known =
    let p : A → Bool = λ z. not (eqb (number z) (number x)) in
    elim (true_or_false (has number (number y) xs)) [
      | inl further ↦ ap (λ zs. x ∷ filter p zs) (firsts_known number xs y further)
      | inr new ↦
          let here : eqb (number x) (number y) ≡ true = or_false (eqb (number x) (number y)) (rw new at known) in
          let left_out : eqb (number y) (number x) ≡ true = eq-eqb _ _ (sym (eqb-true _ _ here)) in
          let none : filter p (y ∷ []) ≡ [] = rw left_out refl in
          ap (λ zs. x ∷ filter p zs) (firsts_new number xs y new)
          ∙ ap (λ zs. x ∷ zs) (filter-append p (firsts number xs) (y ∷ []) ∙ ap (λ zs. filter p (firsts number xs) ++ zs) none ∙ append-nil (filter p (firsts number xs)))
    ]

-- ---- those that have a row

take_short : {A : Type 0} (k : ℕ) (xs : List A) → length (take k xs) < k → take k xs ≡ xs
take_short zero xs lt = absurd (omega arith)
take_short (suc k) [] lt = refl
take_short (suc k) (x ∷ xs) lt = ap (λ zs. x ∷ zs) (take_short k xs (omega arith))

take_fits : {A : Type 0} (k : ℕ) (xs : List A) → length xs ≤ k → take k xs ≡ xs
take_fits zero [] le = refl
take_fits zero (x ∷ xs) le = absurd (omega arith)
take_fits (suc k) [] le = refl
take_fits (suc k) (x ∷ xs) le = ap (λ zs. x ∷ zs) (take_fits k xs (omega arith))

take_full : {A : Type 0} (k : ℕ) (xs ys : List A) → k ≤ length (take k xs) → take k (xs ++ ys) ≡ take k xs
take_full zero xs ys le = refl
take_full (suc k) [] ys le = absurd (omega arith)
take_full (suc k) (x ∷ xs) ys le = ap (λ zs. x ∷ zs) (take_full k xs ys (omega arith))

has_take : {A : Type 0} (number : A → ℕ) (n k : ℕ) (xs : List A) → has number n (take k xs) ≡ true → has number n xs ≡ true
has_take number n zero xs e = absurd cc
has_take number n (suc k) [] e = e
has_take number n (suc k) (x ∷ xs) e =
    elim (true_or_false (has number n (take k xs))) [
      | inl more ↦ or_right (eqb (number x) n) (has number n xs) (has_take number n k xs more)
      | inr none ↦ or_left (eqb (number x) n) (has number n xs) (or_false (eqb (number x) n) (rw none at e))
    ]

pub there_if_listed : {A : Type 0} (number : A → ℕ) (n : ℕ) (xs : List A) → has number n (listed number xs) ≡ true → has number n xs ≡ true
there_if_listed number n xs e = sym (has_firsts number n xs) ∙ has_take number n row_limit (firsts number xs) e

pub new_if_short : {A : Type 0} (number : A → ℕ) (n : ℕ) (xs : List A) → has number n (listed number xs) ≡ false → length (listed number xs) < row_limit → has number n xs ≡ false
new_if_short {A} number n xs none short =
    sym (has_firsts number n xs) ∙ ap (λ (zs : List A). has number n zs) (sym (take_short row_limit (firsts number xs) short)) ∙ none

pub listed_known : {A : Type 0} (number : A → ℕ) (xs : List A) (y : A) → has number (number y) (listed number xs) ≡ true → listed number (xs ++ y ∷ []) ≡ listed number xs
listed_known number xs y known = ap (take row_limit) (firsts_known number xs y (there_if_listed number (number y) xs known))

pub listed_new : {A : Type 0} (number : A → ℕ) (xs : List A) (y : A) → has number (number y) (listed number xs) ≡ false → length (listed number xs) < row_limit
    → listed number (xs ++ y ∷ []) ≡ listed number xs ++ y ∷ []
listed_new {A} number xs y none short =
    let whole : listed number xs ≡ firsts number xs = take_short row_limit (firsts number xs) short in
    let len : length (listed number xs) ≡ length (firsts number xs) = ap length whole in
    ap (take row_limit) (firsts_new number xs y (new_if_short number (number y) xs none short))
    ∙ take_fits row_limit (firsts number xs ++ y ∷ []) (omega (arith, len, short, length-append (firsts number xs) (y ∷ [])))
    ∙ ap (λ (zs : List A). zs ++ y ∷ []) (sym whole)

pub listed_full : {A : Type 0} (number : A → ℕ) (xs : List A) (y : A) → row_limit ≤ length (listed number xs) → listed number (xs ++ y ∷ []) ≡ listed number xs
listed_full number xs y full =
    elim (true_or_false (has number (number y) xs)) [
      | inl known ↦ ap (take row_limit) (firsts_known number xs y known)
      | inr new ↦ ap (take row_limit) (firsts_new number xs y new) ∙ take_full row_limit (firsts number xs) (y ∷ []) full
    ]

-- ---- in order

pub has_placed : {A : Type 0} (number : A → ℕ) (n : ℕ) (x : A) (ys : List A) → has number n (placed number x ys) ≡ (eqb (number x) n || has number n ys)
has_placed number n x [] = refl
has_placed number n x (y ∷ ys) =
    elim (true_or_false (ltb (number x) (number y))) [
      | inl less ↦ rw less refl
      | inr not_less ↦ rw not_less (ap (λ b. eqb (number y) n || b) (has_placed number n x ys) ∙ sym (or_swap_2 (eqb (number x) n) (eqb (number y) n) (has number n ys)))
    ]
  where
    or_swap_2 : (a b c : Bool) → (a || (b || c)) ≡ (b || (a || c))
    or_swap_2 true true c = refl
    or_swap_2 true false c = refl
    or_swap_2 false true c = refl
    or_swap_2 false false c = refl

length_placed : {A : Type 0} (number : A → ℕ) (x : A) (ys : List A) → length (placed number x ys) ≡ length ys + 1
length_placed number x [] = refl
length_placed number x (y ∷ ys) =
    elim (true_or_false (ltb (number x) (number y))) [
      | inl less ↦ rw less (omega arith)
      | inr not_less ↦ rw not_less (omega (arith, length_placed number x ys))
    ]

has_fold : {A : Type 0} (number : A → ℕ) (n : ℕ) (ys xs : List A) → has number n (fold (λ zs x. placed number x zs) ys xs) ≡ (has number n ys || has number n xs)
has_fold number n ys [] = sym (or_none (has number n ys))
  where
    or_none : (a : Bool) → (a || false) ≡ a
    or_none true = refl
    or_none false = refl
has_fold number n ys (x ∷ xs) =
    has_fold number n (placed number x ys) xs
    ∙ ap (λ b. b || has number n xs) (has_placed number n x ys)
    ∙ or_swap (eqb (number x) n) (has number n ys) (has number n xs)

length_fold : {A : Type 0} (number : A → ℕ) (ys xs : List A) → length (fold (λ zs x. placed number x zs) ys xs) ≡ length ys + length xs
length_fold number ys [] = omega arith
length_fold number ys (x ∷ xs) = omega (arith, length_fold number (placed number x ys) xs, length_placed number x ys)

pub has_in_order : {A : Type 0} (number : A → ℕ) (n : ℕ) (xs : List A) → has number n (in_order number xs) ≡ has number n xs
has_in_order number n xs = has_fold number n [] xs

pub length_in_order : {A : Type 0} (number : A → ℕ) (xs : List A) → length (in_order number xs) ≡ length xs
length_in_order number xs = omega (arith, length_fold number [] xs)

pub in_order_more : {A : Type 0} (number : A → ℕ) (xs : List A) (y : A) → in_order number (xs ++ y ∷ []) ≡ placed number y (in_order number xs)
in_order_more number xs y = fold-append (λ zs x. placed number x zs) [] xs (y ∷ [])
