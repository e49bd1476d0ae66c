-- Numbered places, as functions of the number.
use Rattle.std.specs.Prelude.{◌≡◌, ℕ, zero, suc, ◌+◌, ◌<◌, ◌≤◌, ◌==◌, Bool, true, false, if◌then◌else◌, nat_lt, List, [], ◌∷◌, length, Option, Some, None, is_none, not, ◌||◌, slice_set, refl}
use Rattle.std.specs.List.{position_or_len}
use Rattle.std.specs.Option.{option_map}
use Rattle.std.proofs.Common.{ap, sym, ◌∙◌, subst, arith}
use Rattle.std.proofs.lemmas.Bool.{eqb-true, eqb-false, ltb-false}
use Rattle.std.proofs.lemmas.List.Quantifiers.{position-Some}
use Rattle.buffer_core.specs.Slots.{slot_at, free_slot, passes, some_slot, first_slot, change_slot}
use Rattle.buffer_core.proofs.SlotLaws.{split, slot_set_same, slot_set_other, slot_within}

module _ {X : Type 0} where
  split_number : (xs : List (Option X)) (n m : ℕ) (o p : Option X) → slot_at (slice_set xs n o) n ≡ p → slot_at (slice_set xs n o) m ≡ (if n == m then p else slot_at xs m)
  split_number xs n m o p same =
      split (n == m) (λ b. (n == m) ≡ b → slot_at (slice_set xs n o) m ≡ (if b then p else slot_at xs m))
      (λ h e. subst (λ (k : ℕ). slot_at (slice_set xs n o) k ≡ p) (eqb-true n m e) same)
      (λ h e. slot_set_other xs n m o (λ (x : m ≡ n). eqb-false n m e (sym x)))
      refl

  -- a member is put under a number
  pub at_put : (xs : List (Option X)) (n m : ℕ) (o : Option X) → n < length xs → slot_at (slice_set xs n o) m ≡ (if n == m then o else slot_at xs m)
  at_put xs n m o within = split_number xs n m o o (slot_set_same xs n o within)

  cleared : (xs : List (Option X)) (n : ℕ) → slot_at (slice_set xs n None) n ≡ None
  cleared [] n = refl
  cleared (x ∷ xs) zero = refl
  cleared (x ∷ xs) (suc n) = cleared xs n

  -- a number becomes free
  pub at_clear : (xs : List (Option X)) (n m : ℕ) → slot_at (slice_set xs n None) m ≡ (if n == m then None else slot_at xs m)
  at_clear xs n m = split_number xs n m None None (cleared xs n)

  changed : (f : X → X) (xs : List (Option X)) (n : ℕ) → slot_at (slice_set xs n (option_map f (slot_at xs n))) n ≡ option_map f (slot_at xs n)
  changed f [] n = refl
  changed f (x ∷ xs) zero = refl
  changed f (x ∷ xs) (suc n) = changed f xs n

  -- a member changes
  pub at_change : (f : X → X) (xs : List (Option X)) (n m : ℕ) → slot_at (change_slot f xs n) m ≡ (if n == m then option_map f (slot_at xs n) else slot_at xs m)
  at_change f xs n m = split_number xs n m (option_map f (slot_at xs n)) (option_map f (slot_at xs n)) (changed f xs n)

  nobody : (o : Option X) → is_none o ≡ true → o ≡ None
  nobody None e = refl
  nobody (Some x) e = absurd (cc)

  -- a free number is within the list, and has no member
  pub free_within : (xs : List (Option X)) (n : ℕ) → free_slot xs ≡ Some n → (n < length xs) × (slot_at xs n ≡ None)
  free_within xs n e = let is = position-Some is_none xs n None e in (is.0, nobody (slot_at xs n) is.1)

  some_passes : (test : X → Bool) (o : Option X) → passes test o ≡ true → (x : X) × (o ≡ Some x) × (test x ≡ true)
  some_passes test None e = absurd (cc)
  some_passes test (Some x) e = (x, refl, e)

  -- where some member passes the test
  pub some_found : (test : X → Bool) (xs : List (Option X)) → some_slot test xs ≡ true → (n : ℕ) × (x : X) × (slot_at xs n ≡ Some x) × (test x ≡ true)
  some_found test [] e = absurd (cc)
  some_found test (o ∷ os) e =
      split (passes test o) (λ b. passes test o ≡ b → b || some_slot test os ≡ true → (n : ℕ) × (x : X) × (slot_at (o ∷ os) n ≡ Some x) × (test x ≡ true))
      (λ h here e'. let it = some_passes test o here in (0, it.0, it.1, it.2))
      (λ h later e'. let it = some_found test os e' in (suc it.0, it.1, it.2, it.3))
      refl e

  -- the first member that passes the test, and those before it do not
  pub record IsFirst (test : X → Bool) (xs : List (Option X)) (n : ℕ) : Type 0 where
    pub member : X
    pub is : slot_at xs n ≡ Some member
    pub passes_it : test member ≡ true
    pub before : (m : ℕ) (x : X) → m < n → slot_at xs m ≡ Some x → test x ≡ false

  pub first_found : (test : X → Bool) (xs : List (Option X)) (n : ℕ) → first_slot test xs ≡ Some n → IsFirst test xs n
  first_found test xs n e =
      let is = position-Some (passes test) xs n None e in
      let it = some_passes test (slot_at xs n) is.1 in
      record {
        member = it.0;
        is = it.1;
        passes_it = it.2;
        before = λ m x less at_m. ap (passes test) (sym at_m) ∙ is.2 m less;
      }

  all_fail : (p : Option X → Bool) (xs : List (Option X)) → length xs ≤ position_or_len p xs → (k : ℕ) → k < length xs → p (slot_at xs k) ≡ false
  all_fail p [] long k within = absurd (omega (arith, within))
  all_fail p (x ∷ xs) long zero within =
      split (p x) (λ b. suc (length xs) ≤ (if not b then 1 + position_or_len p xs else 0) → b ≡ false)
      (λ h less. absurd (omega (arith, less)))
      (λ h more. refl)
      long
  all_fail p (x ∷ xs) long (suc k) within =
      split (p x) (λ b. suc (length xs) ≤ (if not b then 1 + position_or_len p xs else 0) → p (slot_at xs k) ≡ false)
      (λ h less. absurd (omega (arith, less)))
      (λ h more. all_fail p xs (omega (arith, more)) k (omega (arith, within)))
      long

  -- where none is found, no member passes the test
  pub none_found : (test : X → Bool) (xs : List (Option X)) → first_slot test xs ≡ None → (n : ℕ) (x : X) → slot_at xs n ≡ Some x → test x ≡ false
  none_found test xs e n x is =
      split (nat_lt (position_or_len (passes test) xs) (length xs))
      (λ b. nat_lt (position_or_len (passes test) xs) (length xs) ≡ b → (if b then Some (position_or_len (passes test) xs) else None) ≡ None → test x ≡ false)
      (λ h less some. absurd (cc (some)))
      (λ h long none. ap (passes test) (sym is) ∙ all_fail (passes test) xs (ltb-false (position_or_len (passes test) xs) (length xs) long) n (slot_within xs n x is))
      refl e
