-- Lists of channels and of ports, where one of them changed.
use Rattle.std.specs.Prelude.{◌≡◌, ◌≢◌, ◌≤◌, ◌<◌, ◌+◌, ◌==◌, ◌++◌, ℕ, zero, suc, List, [], ◌∷◌, length, map, take, drop, slice_get, slice_set, Option, Some, ◌⊎◌, refl}
use Rattle.std.specs.Option.{option_map}
use Rattle.std.proofs.Common.{ap, sym, subst, ◌∙◌, arith, inl, inr, get_or, get_or-set_same, get_or-set_other}
use Rattle.std.proofs.lemmas.Bool.{eqb-true, eqb-false}
use Rattle.std.proofs.lemmas.List.{length-set}
use Rattle.std.proofs.lemmas.List.Edits.{map_over_more}
use Rattle.std.proofs.lemmas.Option.{slice_get_within, slice_get-get_or, get_or_from_slice_get}
use Rattle.buffer_core.specs.Slots.{slot_at, change_slot}
use Rattle.buffer_core.proofs.SlotLaws.{split, slot_set_same, slot_set_other, slot_within}

-- a number is this one or another
pub same_or_other : (m n : ℕ) → (m ≡ n) ⊎ (m ≢ n)
same_or_other m n = split (m == n) (λ b. (m == n) ≡ b → (m ≡ n) ⊎ (m ≢ n)) (λ h same. inl (eqb-true m n same)) (λ h other. inr (eqb-false m n other)) refl

-- a number is below another or not
pub below_or_not : (n m : ℕ) → (n < m) ⊎ (m ≤ n)
below_or_not zero zero = inr (omega arith)
below_or_not zero (suc m) = inl (omega arith)
below_or_not (suc n) zero = inr (omega arith)
below_or_not (suc n) (suc m) = elim (below_or_not n m) as (λ w. (suc n < suc m) ⊎ (suc m ≤ suc n)) [
  | inl below ↦ inl (omega (arith, below))
  | inr above ↦ inr (omega (arith, above))
]

module _ {X : Type 0} where
  -- Slots.

  slot_read : (ys : List (Option X)) (i : ℕ) → i < length ys → slot_at ys i ≡ get_or ys i (slot_at ys i)
  slot_read [] i within = absurd (omega arith)
  slot_read (o ∷ os) zero within = refl
  slot_read (o ∷ os) (suc i) within = slot_read os i (omega arith)

  -- a loop that changes one member after another
  pub change_more : (f : X → X) (xs ys : List (Option X)) (i : ℕ) → i < length xs → length ys ≡ length xs → ys ≡ map (option_map f) (take i xs) ++ drop i xs
      → change_slot f ys i ≡ map (option_map f) (take (i + 1) xs) ++ drop (i + 1) xs
  change_more f xs ys i within many so_far = map_over_more (option_map f) xs ys i (slot_at ys i) within so_far (slot_read ys i (omega arith))

  -- the member that was put there
  pub put_there : (xs : List (Option X)) (n : ℕ) (before after : X) → slot_at xs n ≡ Some before → slot_at (slice_set xs n (Some after)) n ≡ Some after
  put_there xs n before after there = slot_set_same xs n (Some after) (slot_within xs n before there)

  -- each member behind a change is the one that was put, or stood there before
  pub one_changed : (P : ℕ → X → Type 0) (xs : List (Option X)) (n : ℕ) (after : X) → ((before : X) → slot_at xs n ≡ Some before → P n after) → ((m : ℕ) (x : X) → m ≢ n → slot_at xs m ≡ Some x → P m x)
      → (before : X) → slot_at xs n ≡ Some before → (m : ℕ) (x : X) → slot_at (slice_set xs n (Some after)) m ≡ Some x → P m x
  one_changed P xs n after here there before stood m x e = elim (same_or_other m n) as (λ w. P m x) [
    | inl same ↦
        let put : slot_at (slice_set xs n (Some after)) n ≡ Some after = put_there xs n before after stood in
        let at_n : slot_at (slice_set xs n (Some after)) n ≡ Some x = subst (λ (k : ℕ). slot_at (slice_set xs n (Some after)) k ≡ Some x) same e in
        let is : after ≡ x = cc (put, at_n) in
        subst (λ (k : ℕ). P k x) (sym same) (subst (λ (y : X). P n y) is (here before stood))
    | inr other ↦ there m x other (sym (slot_set_other xs n m (Some after) other) ∙ e)
  ]

  -- Lists.

  pub got_there : (xs : List X) (n : ℕ) (x y : X) → slice_get xs n ≡ Some x → slice_get (slice_set xs n y) n ≡ Some y
  got_there xs n x y there =
      let within : n < length (slice_set xs n y) = omega (arith, length-set xs n y, slice_get_within xs n x there) in
      slice_get-get_or (slice_set xs n y) n y within ∙ ap Some (get_or-set_same xs n y y (slice_get_within xs n x there))

  pub got_elsewhere : (xs : List X) (n m : ℕ) (y z : X) → m ≢ n → slice_get (slice_set xs n y) m ≡ Some z → slice_get xs m ≡ Some z
  got_elsewhere xs n m y z other there =
      let within : m < length xs = omega (arith, length-set xs n y, slice_get_within (slice_set xs n y) m z there) in
      slice_get-get_or xs m z within ∙ ap Some (sym (get_or-set_other xs n m y z other) ∙ get_or_from_slice_get (slice_set xs n y) m z z there)

  pub many_set : (xs : List X) (n : ℕ) (y : X) → length (slice_set xs n y) ≡ length xs
  many_set xs n y = length-set xs n y

  -- a member of a list with another number stays
  pub kept_there : (xs : List X) (n m : ℕ) (y z : X) → m ≢ n → slice_get xs m ≡ Some z → slice_get (slice_set xs n y) m ≡ Some z
  kept_there xs n m y z other there =
      let within : m < length (slice_set xs n y) = omega (arith, length-set xs n y, slice_get_within xs m z there) in
      slice_get-get_or (slice_set xs n y) m z within ∙ ap Some (get_or-set_other xs n m y z other ∙ get_or_from_slice_get xs m z z there)
