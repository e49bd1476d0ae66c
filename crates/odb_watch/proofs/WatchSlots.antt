-- The watches by their numbers.
use Rattle.std.proofs.Common.{◌≡◌, ℕ, zero, suc, ◌+◌, ◌<◌, ◌≤◌, List, [], ◌∷◌, ◌++◌, length, drop, get_or, slice_set, Option, Some, None, refl, ap, ◌∙◌, arith}
use Rattle.odb_tree.specs.declared.notes.Watch.{Watch}
use Rattle.odb_watch.specs.Slots.{slot, with_slot, free_watch}

pub with_slot-inside : (xs : List (Option Watch)) (w : ℕ) (k : Option Watch) → w < length xs → with_slot xs w k ≡ slice_set xs w k
with_slot-inside [] w k h = absurd (omega (arith, h))
with_slot-inside (x ∷ xs) zero k h = refl
with_slot-inside (x ∷ xs) (suc w) k h = ap (λ l. x ∷ l) (with_slot-inside xs w k (omega (arith, h)))

pub with_slot-behind : (xs : List (Option Watch)) (w : ℕ) (k : Option Watch) → length xs ≤ w → with_slot xs w k ≡ xs ++ k ∷ []
with_slot-behind [] w k h = refl
with_slot-behind (x ∷ xs) zero k h = absurd (omega (arith, h))
with_slot-behind (x ∷ xs) (suc w) k h = ap (λ l. x ∷ l) (with_slot-behind xs w k (omega (arith, h)))

pub slot_behind : (xs : List (Option Watch)) (w : ℕ) → length xs ≤ w → slot xs w ≡ None
slot_behind [] w h = refl
slot_behind (x ∷ xs) zero h = absurd (omega (arith, h))
slot_behind (x ∷ xs) (suc w) h = slot_behind xs w (omega (arith, h))

free_more : (xs : List (Option Watch)) (i : ℕ) (k : Watch) → i < length xs → get_or xs i None ≡ Some k → free_watch (drop i xs) ≡ free_watch (drop (suc i) xs) + 1
free_more [] i k h e = absurd (omega (arith, h))
free_more (x ∷ xs) zero k h e = ap (λ (o : Option Watch). free_watch (o ∷ xs)) e
free_more (x ∷ xs) (suc i) k h e = free_more xs i k (omega (arith, h)) e

pub free_taken : (xs : List (Option Watch)) (i : ℕ) (k : Watch) → i < length xs → get_or xs i None ≡ Some k → free_watch (drop i xs) ≡ free_watch (drop (i + 1) xs) + 1
free_taken xs i k h e = free_more xs i k h e ∙ ap (λ (n : ℕ). free_watch (drop n xs) + 1) {x = suc i} {y = i + 1} (omega arith)

pub free_found : (xs : List (Option Watch)) (i : ℕ) → i < length xs → get_or xs i None ≡ None → free_watch (drop i xs) ≡ 0
free_found [] i h e = absurd (omega (arith, h))
free_found (x ∷ xs) zero h e = ap (λ (o : Option Watch). free_watch (o ∷ xs)) e
free_found (x ∷ xs) (suc i) h e = free_found xs i (omega (arith, h)) e

pub free_none : (xs : List (Option Watch)) (i : ℕ) → length xs ≤ i → free_watch (drop i xs) ≡ 0
free_none [] zero h = refl
free_none [] (suc i) h = refl
free_none (x ∷ xs) zero h = absurd (omega (arith, h))
free_none (x ∷ xs) (suc i) h = free_none xs i (omega (arith, h))
