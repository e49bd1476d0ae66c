-- Laws of numbered places.
use Rattle.std.specs.Prelude.{◌≡◌, ◌≢◌, ℕ, zero, suc, ◌<◌, Bool, true, false, ◌||◌, List, [], ◌∷◌, length, replicate, Option, Some, None, slice_set, refl}
use Rattle.std.specs.Option.{option_map}
use Rattle.std.proofs.Common.{ap, ◌∙◌, arith, get_or-set_same, get_or-set_other}
use Rattle.std.proofs.Math.Bool.{or-true}
use Rattle.std.proofs.Math.ListN.{get_or-map}
use Rattle.std.proofs.lemmas.List.Quantifiers.{position-Some}
use Rattle.buffer_core.specs.Slots.{slot_at, passes, some_slot, first_slot, change_slot, change_all}

-- a test has two answers
pub split : (b : Bool) (P : Bool → Type 0) → (b ≡ true → P true) → (b ≡ false → P false) → P b
split true P hit miss = hit refl
split false P hit miss = miss refl

none_from : (o : Option ℕ) → ((i : ℕ) → o ≡ Some i → ⊥) → o ≡ None
none_from None never = refl
none_from (Some i) never = absurd (never i refl)

module _ {X : Type 0} where
  -- what was put under a number is there
  pub slot_set_same : (xs : List (Option X)) (n : ℕ) (o : Option X) → n < length xs → slot_at (slice_set xs n o) n ≡ o
  slot_set_same xs n o h = get_or-set_same xs n o None h

  -- and the others stay
  pub slot_set_other : (xs : List (Option X)) (n m : ℕ) (o : Option X) → m ≢ n → slot_at (slice_set xs n o) m ≡ slot_at xs m
  slot_set_other xs n m o h = get_or-set_other xs n m o None h

  -- the number of a member is below the length
  pub slot_within : (xs : List (Option X)) (n : ℕ) (x : X) → slot_at xs n ≡ Some x → n < length xs
  slot_within [] n x e = absurd (cc)
  slot_within (o ∷ os) zero x e = omega arith
  slot_within (o ∷ os) (suc n) x e = omega (arith, slot_within os n x e)

  pub slot_change_same : (f : X → X) (xs : List (Option X)) (n : ℕ) (x : X) → slot_at xs n ≡ Some x → slot_at (change_slot f xs n) n ≡ Some (f x)
  slot_change_same f xs n x e = slot_set_same xs n (option_map f (slot_at xs n)) (slot_within xs n x e) ∙ ap (option_map f) e

  pub slot_change_other : (f : X → X) (xs : List (Option X)) (n m : ℕ) → m ≢ n → slot_at (change_slot f xs n) m ≡ slot_at xs m
  slot_change_other f xs n m h = slot_set_other xs n m (option_map f (slot_at xs n)) h

  pub slot_change_all : (f : X → X) (xs : List (Option X)) (n : ℕ) → slot_at (change_all f xs) n ≡ option_map f (slot_at xs n)
  slot_change_all f xs n = get_or-map (option_map f) xs n None

  -- where all numbers are free there is no member
  pub slot_free : (count n : ℕ) → slot_at (replicate {A = Option X} count None) n ≡ None
  slot_free zero n = refl
  slot_free (suc count) zero = refl
  slot_free (suc count) (suc n) = slot_free count n

  some_from : (test : X → Bool) (o : Option X) → passes test o ≡ true → (x : X) × (o ≡ Some x) × (test x ≡ true)
  some_from test None e = absurd (cc)
  some_from test (Some x) e = (x, refl, e)

  -- where no member passes the test, none is found
  pub first_slot_none : (test : X → Bool) (xs : List (Option X)) → ((n : ℕ) (x : X) → slot_at xs n ≡ Some x → test x ≡ false) → first_slot test xs ≡ None
  first_slot_none test xs fails =
      none_from (first_slot test xs) (λ i e.
      let passed = position-Some (passes test) xs i None e in
      let member = some_from test (slot_at xs i) passed.1 in
      let failed : test member.0 ≡ false = fails i member.0 member.1 in
      cc (failed, member.2))

  -- a member that passes the test
  pub some_slot_true : (test : X → Bool) (xs : List (Option X)) (n : ℕ) (x : X) → slot_at xs n ≡ Some x → test x ≡ true → some_slot test xs ≡ true
  some_slot_true test [] n x e hit = absurd (cc)
  some_slot_true test (o ∷ os) zero x e hit = ap (λ (b : Bool). b || some_slot test os) (ap (passes test) e ∙ hit)
  some_slot_true test (o ∷ os) (suc n) x e hit = ap (λ (b : Bool). passes test o || b) (some_slot_true test os n x e hit) ∙ or-true (passes test o)
