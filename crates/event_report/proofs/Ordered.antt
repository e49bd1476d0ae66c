-- The rows of a report stand by rising numbers, each number once.
use Rattle.std.proofs.Common.{◌≡◌, ℕ, zero, suc, ◌<◌, Bool, false, not, eqb, ltb, List, [], ◌∷◌, length, get_or, take, map, filter, fold, refl, ap, ◌∙◌, arith, inl, inr}
use Rattle.std.specs.Prelude.{◌||◌, All}
use Rattle.std.specs.List.{AllByRecursion}
use Rattle.std.proofs.lemmas.Bool.{ltb-true, ltb-false, eqb-false}
use Rattle.std.proofs.lemmas.List.{get_or-map, length-map}
use Rattle.std.proofs.lemmas.List.Elements.{All-cons, All-head, All-tail}
use Rattle.event_report.specs.Listing.{row_limit, has, firsts, listed}
use Rattle.transitions.specs.Placing.{placed, in_order}
use Rattle.event_report.specs.Held.{IsRising}
use Rattle.event_report.proofs.Listed.{true_or_false, both_false, eqb_flip, has_placed}

abbrev IsApart : {A : Type 0} → (A → ℕ) → List A → Type 0
IsApart number [] = Unit {0}
IsApart number (x ∷ xs) = (has number (number x) xs ≡ false) × IsApart number xs

both_not : (a b : Bool) → a ≡ false → b ≡ false → (a || b) ≡ false
both_not a b e f = rw (e, f) refl

-- ---- the first of each number are apart

not_filtered : {A : Type 0} (number : A → ℕ) (n : ℕ) (p : A → Bool) (xs : List A) → has number n xs ≡ false → has number n (filter p xs) ≡ false
not_filtered number n p [] none = refl
not_filtered number n p (x ∷ xs) none =
    let parts = both_false (eqb (number x) n) (has number n xs) none in
    elim (true_or_false (p x)) [
      | inl kept ↦ rw kept (both_not (eqb (number x) n) (has number n (filter p xs)) parts.0 (not_filtered number n p xs parts.1))
      | inr out ↦ rw out (not_filtered number n p xs parts.1)
    ]

apart_filter : {A : Type 0} (number : A → ℕ) (p : A → Bool) (xs : List A) → IsApart number xs → IsApart number (filter p xs)
apart_filter number p [] apart = tt
apart_filter number p (x ∷ xs) apart =
    elim (true_or_false (p x)) [
      | inl kept ↦ rw kept (not_filtered number (number x) p xs apart.0, apart_filter number p xs apart.1)
      | inr out ↦ rw out (apart_filter number p xs apart.1)
    ]

left_out : {A : Type 0} (number : A → ℕ) (x : A) (xs : List A) → has number (number x) (filter (λ y. not (eqb (number y) (number x))) xs) ≡ false
left_out number x [] = refl
left_out number x (y ∷ ys) =
    elim (true_or_false (eqb (number y) (number x))) [
      | inl same ↦ rw same (left_out number x ys)
      | inr ne ↦ rw ne (both_not (eqb (number y) (number x)) _ ne (left_out number x ys))
    ]

apart_firsts : {A : Type 0} (number : A → ℕ) (xs : List A) → IsApart number (firsts number xs)
apart_firsts number [] = tt
apart_firsts number (x ∷ xs) = (left_out number x (firsts number xs), apart_filter number (λ y. not (eqb (number y) (number x))) (firsts number xs) (apart_firsts number xs))

not_taken : {A : Type 0} (number : A → ℕ) (n k : ℕ) (xs : List A) → has number n xs ≡ false → has number n (take k xs) ≡ false
not_taken number n zero xs none = refl
not_taken number n (suc k) [] none = refl
not_taken number n (suc k) (x ∷ xs) none =
    let parts = both_false (eqb (number x) n) (has number n xs) none in
    both_not (eqb (number x) n) (has number n (take k xs)) parts.0 (not_taken number n k xs parts.1)

apart_take : {A : Type 0} (number : A → ℕ) (k : ℕ) (xs : List A) → IsApart number xs → IsApart number (take k xs)
apart_take number zero xs apart = tt
apart_take number (suc k) [] apart = tt
apart_take number (suc k) (x ∷ xs) apart = (not_taken number (number x) k xs apart.0, apart_take number k xs apart.1)

-- ---- in order they rise

rising_cons : {A : Type 0} (number : A → ℕ) (x : A) (xs : List A) → All (λ y. number x < number y) xs → IsRising number xs → IsRising number (x ∷ xs)
rising_cons number x xs above up zero zero d lt below = absurd (omega arith)
rising_cons number x xs above up zero (suc j) d lt below = above j d (omega arith)
rising_cons number x xs above up (suc i) zero d lt below = absurd (omega arith)
rising_cons number x xs above up (suc i) (suc j) d lt below = up i j d (omega arith) (omega arith)

all_placed : {A : Type 0} (P : A → Type 0) (number : A → ℕ) (x : A) (ys : List A) → P x → All P ys → All P (placed number x ys)
all_placed P number x [] one all = All-cons P x [] one all
all_placed P number x (y ∷ ys) one all =
    elim (true_or_false (ltb (number x) (number y))) [
      | inl less ↦ rw less (All-cons P x (y ∷ ys) one all)
      | inr not_less ↦ rw not_less (All-cons P y (placed number x ys) (All-head P y ys all) (all_placed P number x ys one (All-tail P y ys all)))
    ]

above_all : {A : Type 0} (number : A → ℕ) (x y : A) (ys : List A) → number x < number y → IsRising number (y ∷ ys) → All (λ z. number x < number z) (y ∷ ys)
above_all number x y ys lt up zero d below = lt
above_all number x y ys lt up (suc k) d below = let above = up 0 (suc k) d (omega arith) below in omega (arith, lt, above)

tail_rises : {A : Type 0} (number : A → ℕ) (y : A) (ys : List A) → IsRising number (y ∷ ys) → IsRising number ys
tail_rises number y ys up i j d lt below = up (suc i) (suc j) d (omega arith) (omega arith)

rising_placed : {A : Type 0} (number : A → ℕ) (x : A) (ys : List A) → IsRising number ys → has number (number x) ys ≡ false → IsRising number (placed number x ys)
rising_placed number x [] up none = rising_cons number x [] (λ k d below. absurd (omega (arith, below))) up
rising_placed number x (y ∷ ys) up none =
    let parts = both_false (eqb (number y) (number x)) (has number (number x) ys) none in
    elim (true_or_false (ltb (number x) (number y))) [
      | inl less ↦ rw less (rising_cons number x (y ∷ ys) (above_all number x y ys (ltb-true _ _ less) up) up)
      | inr not_less ↦
          let apart = eqb-false (number y) (number x) parts.0 in
          let le = ltb-false (number x) (number y) not_less in
          let lt : number y < number x = omega (arith, apart, le) in
          rw not_less (rising_cons number y (placed number x ys)
          (all_placed (λ z. number y < number z) number x ys lt (λ k d below. up 0 (suc k) d (omega arith) (omega (arith, below))))
          (rising_placed number x ys (tail_rises number y ys up) parts.1))
    ]

free_of : {A : Type 0} (number : A → ℕ) (x : A) (ys xs : List A) → has number (number x) xs ≡ false → AllByRecursion (λ z. has number (number z) ys ≡ false) xs
    → AllByRecursion (λ z. has number (number z) (placed number x ys) ≡ false) xs
free_of number x ys [] none free = tt
free_of number x ys (z ∷ xs) none free =
    let parts = both_false (eqb (number z) (number x)) (has number (number x) xs) none in
    (has_placed number (number z) x ys ∙ both_not (eqb (number x) (number z)) (has number (number z) ys) (eqb_flip (number z) (number x) parts.0) free.0, free_of number x ys xs parts.1 free.1)

rising_fold : {A : Type 0} (number : A → ℕ) (ys xs : List A) → IsRising number ys → IsApart number xs → AllByRecursion (λ z. has number (number z) ys ≡ false) xs
    → IsRising number (fold (λ zs x. placed number x zs) ys xs)
rising_fold number ys [] up apart free = up
rising_fold number ys (x ∷ xs) up apart free =
    rising_fold number (placed number x ys) xs (rising_placed number x ys up free.0) apart.1 (free_of number x ys xs apart.0 free.1)

free_of_none : {A : Type 0} (number : A → ℕ) (xs : List A) → AllByRecursion (λ z. has number (number z) [] ≡ false) xs
free_of_none number [] = tt
free_of_none number (x ∷ xs) = (refl, free_of_none number xs)

rising_listed : {A : Type 0} (number : A → ℕ) (xs : List A) → IsRising number (in_order number (listed number xs))
rising_listed number xs =
    rising_fold number [] (listed number xs) (λ i j d lt below. absurd (omega (arith, below))) (apart_take number row_limit (firsts number xs) (apart_firsts number xs)) (free_of_none number (listed number xs))

rising_map : {A R : Type 0} (number : A → ℕ) (rnum : R → ℕ) (f : A → R) → ((a : A) → rnum (f a) ≡ number a) → (xs : List A) → length (map f xs) ≡ length xs → IsRising number xs → IsRising rnum (map f xs)
rising_map number rnum f same [] long up i j d lt below = absurd (omega arith)
rising_map number rnum f same (x ∷ xs) long up i j d lt below =
    let h = up i j x lt (omega (arith, long)) in
    let i_is = ap rnum (get_or-map f (x ∷ xs) i x d (omega (arith, long))) ∙ same (get_or (x ∷ xs) i x) in
    let j_is = ap rnum (get_or-map f (x ∷ xs) j x d (omega (arith, long))) ∙ same (get_or (x ∷ xs) j x) in
    omega (arith, h, i_is, j_is)

-- the rows of things that have one
pub rising_rows : {A R : Type 0} (number : A → ℕ) (rnum : R → ℕ) (f : A → R) → ((a : A) → rnum (f a) ≡ number a) → (xs : List A) → IsRising rnum (map f (in_order number (listed number xs)))
rising_rows number rnum f same xs = rising_map number rnum f same (in_order number (listed number xs)) (length-map (in_order number (listed number xs)) f) (rising_listed number xs)
