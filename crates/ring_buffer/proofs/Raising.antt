-- The clients that are behind are raised.
use Rattle.std.specs.Prelude.{◌≡◌, ℕ, suc, ◌+◌, ◌<◌, ◌≤◌, Bool, false, nat_lt, if◌then◌else◌, List, [], ◌∷◌, ◌++◌, length, map, take, drop, Option, Some, None, refl}
use Rattle.std.specs.Option.{option_map}
use Rattle.std.proofs.Common.{ap, ◌∙◌, set, get_or, rules}
use Rattle.std.proofs.lemmas.List.Edits.{map_over_more}
use Rattle.buffer_core.specs.Slots.{slot_at, passes, change_all}
use Rattle.ring_buffer.specs.declared.pointer.Pointer.{Pointer}
use Rattle.ring_buffer.specs.Pointers.{raised, moved}

-- one that is not behind stays
stays : (off place : ℕ) (o : Option Pointer) → passes (λ (p : Pointer). nat_lt p.client.next place) o ≡ false → option_map (raised off place) o ≡ o
stays off place None e = refl
stays off place (Some p) e = ap (λ (b : Bool). Some (if b then moved off place p else p)) e

pub raised_one : (off place : ℕ) (xs ys zs : List (Option Pointer)) (i : ℕ) (x y : Option Pointer) → i < length xs
    → ys ≡ map (option_map (raised off place)) (take i xs) ++ drop i xs → x ≡ get_or ys i x → y ≡ option_map (raised off place) x → zs ≡ set ys i y
    → zs ≡ map (option_map (raised off place)) (take (i + 1) xs) ++ drop (i + 1) xs
raised_one off place xs ys zs i x y within before read is put =
    put ∙ (ap (λ (o : Option Pointer). set ys i o) is ∙ map_over_more (option_map (raised off place)) xs ys i x within before read)

-- one that is not behind is not counted as behind
not_behind : (place : ℕ) (o : Option Pointer) → ((p : Pointer) → o ≡ Some p → place ≤ p.client.next) → passes (λ (p : Pointer). nat_lt p.client.next place) o ≡ false
not_behind place None ahead = refl
not_behind place (Some p) ahead = let h : place ≤ p.client.next = ahead p refl in search rules

-- where nobody is behind, all stay
pub none_raised : (off place : ℕ) (slots : List (Option Pointer)) → ((n : ℕ) (p : Pointer) → slot_at slots n ≡ Some p → place ≤ p.client.next) → change_all (raised off place) slots ≡ slots
none_raised off place [] ahead = refl
none_raised off place (o ∷ os) ahead =
    ap (λ (x : Option Pointer). x ∷ change_all (raised off place) os) (stays off place o (not_behind place o (λ p is. ahead 0 p is)))
    ∙ ap (λ (xs : List (Option Pointer)). o ∷ xs) (none_raised off place os (λ n p is. ahead (suc n) p is))
