-- Elements of lists by their places, and how many events have to go.
use Rattle.std.specs.Prelude.{◌≡◌, ℕ, zero, suc, ◌+◌, ◌<◌, ◌≤◌, if◌then◌else◌, nat_le, List, [], ◌∷◌, ◌++◌, length, take, drop, sum_by, slice_get, Some, refl, ◌⊎◌}
use Rattle.std.proofs.Common.{ap, ◌∙◌, arith, inl, inr}
use Rattle.std.proofs.lemmas.Bool.{leb-true, leb-false}
use Rattle.std.proofs.lemmas.List.Sums.{sum_by-cons, sum_by-take-drop}
use Rattle.buffer_core.specs.Calls.{to_drop}
use Rattle.buffer_core.proofs.SlotLaws.{split}

module _ {X : Type 0} where
  pub get_push : (xs : List X) (y : X) (i : ℕ) (x : X) → slice_get xs i ≡ Some x → slice_get (xs ++ y ∷ []) i ≡ Some x
  get_push [] y i x e = absurd (cc)
  get_push (z ∷ zs) y zero x e = e
  get_push (z ∷ zs) y (suc i) x e = get_push zs y i x e

  pub get_last : (xs : List X) (y : X) (n : ℕ) → n ≡ length xs → slice_get (xs ++ y ∷ []) n ≡ Some y
  get_last [] y zero e = refl
  get_last [] y (suc n) e = absurd (omega (arith, e))
  get_last (z ∷ zs) y zero e = absurd (omega (arith, e))
  get_last (z ∷ zs) y (suc n) e = get_last zs y n (omega (arith, e))

  -- an element of a list that got one more is an old one, or the new one at the end
  pub get_pushed : (xs : List X) (y : X) (i : ℕ) (x : X) → slice_get (xs ++ y ∷ []) i ≡ Some x → (slice_get xs i ≡ Some x) ⊎ ((i ≡ length xs) × (y ≡ x))
  get_pushed [] y zero x e = inr (refl, cc)
  get_pushed [] y (suc i) x e = absurd (cc)
  get_pushed (z ∷ zs) y zero x e = inl e
  get_pushed (z ∷ zs) y (suc i) x e = later (get_pushed zs y i x e)
    where
      later : (slice_get zs i ≡ Some x) ⊎ ((i ≡ length zs) × (y ≡ x)) → (slice_get zs i ≡ Some x) ⊎ ((suc i ≡ suc (length zs)) × (y ≡ x))
      later (inl old) = inl old
      later (inr new) = inr (ap suc new.0, new.1)

  pub get_below : (xs : List X) (y : X) (i : ℕ) → i < length xs → slice_get (xs ++ y ∷ []) i ≡ slice_get xs i
  get_below [] y i h = absurd (omega (arith, h))
  get_below (z ∷ zs) y zero h = refl
  get_below (z ∷ zs) y (suc i) h = get_below zs y i (omega (arith, h))

  pub get_within : (xs : List X) (i : ℕ) (x : X) → slice_get xs i ≡ Some x → i < length xs
  get_within [] i x e = absurd (cc)
  get_within (y ∷ ys) zero x e = omega arith
  get_within (y ∷ ys) (suc i) x e = omega (arith, get_within ys i x e)

  -- an element below the old length is an old one
  pub get_old : (xs : List X) (y : X) (i : ℕ) (x : X) → i < length xs → slice_get (xs ++ y ∷ []) i ≡ Some x → slice_get xs i ≡ Some x
  get_old xs y i x within e = old (get_pushed xs y i x e)
    where
      old : (slice_get xs i ≡ Some x) ⊎ ((i ≡ length xs) × (y ≡ x)) → slice_get xs i ≡ Some x
      old (inl is) = is
      old (inr new) = absurd (omega (arith, within, new.0))

  pub get_drop : (n : ℕ) (xs : List X) (i q : ℕ) → q ≡ n + i → slice_get (drop n xs) i ≡ slice_get xs q
  get_drop zero xs i q e = ap (slice_get xs) (omega (arith, e))
  get_drop (suc n) [] i q e = refl
  get_drop (suc n) (x ∷ xs) i zero e = absurd (omega (arith, e))
  get_drop (suc n) (x ∷ xs) i (suc q) e = get_drop n xs i q (omega (arith, e))

  pub get_take : (n : ℕ) (xs : List X) (i : ℕ) → i < n → slice_get (take n xs) i ≡ slice_get xs i
  get_take zero xs i h = absurd (omega (arith, h))
  get_take (suc n) [] i h = refl
  get_take (suc n) (x ∷ xs) zero h = refl
  get_take (suc n) (x ∷ xs) (suc i) h = get_take n xs i (omega (arith, h))

  pub get_taken : (n : ℕ) (xs : List X) (i : ℕ) (x : X) → slice_get (take n xs) i ≡ Some x → (i < n) × (slice_get xs i ≡ Some x)
  get_taken zero xs i x e = absurd (cc)
  get_taken (suc n) [] i x e = absurd (cc)
  get_taken (suc n) (y ∷ ys) zero x e = (omega arith, e)
  get_taken (suc n) (y ∷ ys) (suc i) x e = let rest = get_taken n ys i x e in (omega (arith, rest.0), rest.1)

  pub drop_sum : (f : X → ℕ) (xs : List X) (i : ℕ) → sum_by f (drop i xs) ≤ sum_by f xs
  drop_sum f xs i = omega (arith, sum_by-take-drop f xs i)

  -- the sum of the elements before a place and of the one there
  pub take_next : (f : X → ℕ) (xs : List X) (i : ℕ) (x : X) → slice_get xs i ≡ Some x → sum_by f (take (i + 1) xs) ≡ sum_by f (take i xs) + f x
  take_next f [] i x e = absurd (cc)
  take_next f (y ∷ ys) zero x e =
      let same : y ≡ x = cc in
      omega (arith, sum_by-cons f y [], ap f same)
  take_next f (y ∷ ys) (suc i) x e =
      let more : suc i + 1 ≡ suc (i + 1) = omega arith in
      ap (λ (n : ℕ). sum_by f (take n (y ∷ ys))) more ∙ omega (arith, take_next f ys i x e, sum_by-cons f y (take (i + 1) ys), sum_by-cons f y (take i ys))

  pub take_rises : (f : X → ℕ) (xs : List X) (m n : ℕ) → m ≤ n → sum_by f (take m xs) ≤ sum_by f (take n xs)
  take_rises f xs zero n h = omega arith
  take_rises f [] (suc m) zero h = omega (arith, h)
  take_rises f [] (suc m) (suc n) h = omega arith
  take_rises f (x ∷ xs) (suc m) zero h = absurd (omega (arith, h))
  take_rises f (x ∷ xs) (suc m) (suc n) h = omega (arith, take_rises f xs m n (omega (arith, h)), sum_by-cons f x (take m xs), sum_by-cons f x (take n xs))

  -- what has to go does not fit with the rest
  pub goes : (f : X → ℕ) (size slot : ℕ) (xs : List X) (i : ℕ) → i < to_drop f size slot xs → size < sum_by f (drop i xs) + slot
  goes f size slot [] i h = absurd (omega (arith, h))
  goes f size slot (x ∷ xs) zero h =
      split (nat_le (sum_by f (x ∷ xs) + slot) size) (λ b. 0 < (if b then 0 else suc (to_drop f size slot xs)) → size < sum_by f (x ∷ xs) + slot)
      (λ e none. absurd (omega (arith, none)))
      (λ e some. leb-false (sum_by f (x ∷ xs) + slot) size e)
      h
  goes f size slot (x ∷ xs) (suc i) h =
      split (nat_le (sum_by f (x ∷ xs) + slot) size) (λ b. suc i < (if b then 0 else suc (to_drop f size slot xs)) → size < sum_by f (drop i xs) + slot)
      (λ e none. absurd (omega (arith, none)))
      (λ e some. goes f size slot xs i (omega (arith, some)))
      h

  -- and what does not fit with the rest has to go
  pub goes_much : (f : X → ℕ) (size slot : ℕ) (xs : List X) (i : ℕ) → slot ≤ size → size < sum_by f (drop i xs) + slot → i < to_drop f size slot xs
  goes_much f size slot [] zero fits much = absurd (omega (arith, fits, much))
  goes_much f size slot [] (suc i) fits much = absurd (omega (arith, fits, much))
  goes_much f size slot (x ∷ xs) zero fits much =
      split (nat_le (sum_by f (x ∷ xs) + slot) size) (λ b. 0 < (if b then 0 else suc (to_drop f size slot xs)))
      (λ e. absurd (omega (arith, much, leb-true (sum_by f (x ∷ xs) + slot) size e)))
      (λ e. omega arith)
  goes_much f size slot (x ∷ xs) (suc i) fits much =
      split (nat_le (sum_by f (x ∷ xs) + slot) size) (λ b. suc i < (if b then 0 else suc (to_drop f size slot xs)))
      (λ e. absurd (omega (arith, much, leb-true (sum_by f (x ∷ xs) + slot) size e, drop_sum f xs i, sum_by-cons f x xs)))
      (λ e. omega (arith, goes_much f size slot xs i fits much))
