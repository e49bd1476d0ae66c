-- Lists of which one member changed, and lists that agree member by member.
use Rattle.std.specs.Prelude.{◌≡◌, ◌≢◌, ◌≤◌, ◌<◌, ◌==◌, ◌&&◌, Bool, true, false, ℕ, zero, suc, List, [], ◌∷◌, length, map, slice_get, slice_set, Some, ◌⊎◌, refl}
use Rattle.std.specs.List.{list_all}
use Rattle.std.proofs.Common.{ap, sym, ◌∙◌, arith, inl, inr, get_or, get_or-set_same, get_or-set_other}
use Rattle.std.proofs.lemmas.Bool.{eqb-true, eqb-false}
use Rattle.std.proofs.lemmas.List.{length-set}
use Rattle.std.proofs.lemmas.Option.{slice_get_within, slice_get-get_or, get_or_from_slice_get, same_Some}

-- a test has two answers
pub two_answers : (b : Bool) → (b ≡ true) ⊎ (b ≡ false)
two_answers true = inl refl
two_answers false = inr refl

pub both_true : (a b : Bool) → (a && b) ≡ true → (a ≡ true) × (b ≡ true)
both_true true b both = (refl, both)
both_true false b both = absurd (cc)

-- a number is this one or another
pub same_or_other : (m n : ℕ) → (m ≡ n) ⊎ (m ≢ n)
same_or_other m n = elim (two_answers (m == n)) as (λ w. (m ≡ n) ⊎ (m ≢ n)) [
  | inl same ↦ inl (eqb-true m n same)
  | inr other ↦ inr (eqb-false m n other)
]

-- a number is below another or not
pub below_or_not : (n m : ℕ) → (n < m) ⊎ (m ≤ n)
below_or_not zero zero = inr (omega arith)
below_or_not zero (suc m) = inl (omega arith)
below_or_not (suc n) zero = inr (omega arith)
below_or_not (suc n) (suc m) = elim (below_or_not n m) as (λ w. (suc n < suc m) ⊎ (suc m ≤ suc n)) [
  | inl below ↦ inl (omega (arith, below))
  | inr above ↦ inr (omega (arith, above))
]

module _ {X : Type 0} where
  -- the member of a number that is below the length
  pub member : (xs : List X) (n : ℕ) → n < length xs → (x : X) × (slice_get xs n ≡ Some x)
  member [] n within = absurd (omega arith)
  member (x ∷ xs) zero within = (x, refl)
  member (x ∷ xs) (suc n) within = member xs n (omega arith)

  pub got_there : (xs : List X) (n : ℕ) (x y : X) → slice_get xs n ≡ Some x → slice_get (slice_set xs n y) n ≡ Some y
  got_there xs n x y there =
      let within : n < length (slice_set xs n y) = omega (arith, length-set xs n y, slice_get_within xs n x there) in
      slice_get-get_or (slice_set xs n y) n y within ∙ ap Some (get_or-set_same xs n y y (slice_get_within xs n x there))

  pub got_elsewhere : (xs : List X) (n m : ℕ) (y z : X) → m ≢ n → slice_get (slice_set xs n y) m ≡ Some z → slice_get xs m ≡ Some z
  got_elsewhere xs n m y z other there =
      let within : m < length xs = omega (arith, length-set xs n y, slice_get_within (slice_set xs n y) m z there) in
      slice_get-get_or xs m z within ∙ ap Some (sym (get_or-set_other xs n m y z other) ∙ get_or_from_slice_get (slice_set xs n y) m z z there)

  -- a member with another number stays
  pub kept_there : (xs : List X) (n m : ℕ) (y z : X) → m ≢ n → slice_get xs m ≡ Some z → slice_get (slice_set xs n y) m ≡ Some z
  kept_there xs n m y z other there =
      let within : m < length (slice_set xs n y) = omega (arith, length-set xs n y, slice_get_within xs m z there) in
      slice_get-get_or (slice_set xs n y) m z within ∙ ap Some (get_or-set_other xs n m y z other ∙ get_or_from_slice_get xs m z z there)

  -- where all pass a test, each does
  pub each_passes : (test : X → Bool) (xs : List X) (n : ℕ) (x : X) → list_all test xs ≡ true → slice_get xs n ≡ Some x → test x ≡ true
  each_passes test [] n x all there = absurd (cc)
  each_passes test (y ∷ ys) zero x all there = ap test (sym (same_Some y x there)) ∙ (both_true (test y) (list_all test ys) all).0
  each_passes test (y ∷ ys) (suc n) x all there = each_passes test ys n x (both_true (test y) (list_all test ys) all).1 there

  -- Lists of as many members, each of which tells the same, tell the same.
  pub same_told : {Z : Type 0} (tell : X → Z) (xs ys : List X) → length ys ≡ length xs → ((n : ℕ) (y : X) → slice_get ys n ≡ Some y → (x : X) × (slice_get xs n ≡ Some x) × (tell y ≡ tell x)) → map tell ys ≡ map tell xs
  same_told {Z} tell [] [] many same = refl
  same_told {Z} tell [] (y ∷ ys) many same = absurd (omega arith)
  same_told {Z} tell (x ∷ xs) [] many same = absurd (omega arith)
  same_told {Z} tell (x ∷ xs) (y ∷ ys) many same =
      let first = same zero y refl in
      let head : tell y ≡ tell x = first.2 ∙ ap tell (sym (same_Some x first.0 first.1)) in
      let tail : map tell ys ≡ map tell xs = same_told tell xs ys (omega arith) (λ n z there. same (suc n) z there) in
      ap (λ (z : Z). z ∷ map tell ys) head ∙ ap (λ (zs : List Z). tell x ∷ zs) tail

  -- a member that is there is what is read there
  pub read_there : (xs : List X) (n : ℕ) (x : X) → slice_get xs n ≡ Some x → x ≡ get_or xs n x
  read_there xs n x there = sym (get_or_from_slice_get xs n x x there)
