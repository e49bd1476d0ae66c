-- The numbers that were given: what is free above them needs no look.
use Rattle.std.specs.Prelude.{◌≡◌, ℕ, zero, suc, ◌+◌, Bool, cond, List, [], ◌∷◌, ◌++◌, take, drop, replicate, Option, Some, None, refl}
use Rattle.std.specs.Option.{option_map}
use Rattle.std.specs.List.{position_from}
use Rattle.std.proofs.Common.{ap, sym, ◌∙◌, arith}
use Rattle.std.proofs.lemmas.Iterator.Adapters.{position_from-zero}
use Rattle.buffer_core.specs.Slots.{slot_at, first_slot, passes, change_all}
use Rattle.buffer_core.proofs.SlotLaws.{slot_free, slot_change_all}
use Rattle.ring_buffer.specs.declared.pointer.Pointer.{Pointer}
use Rattle.ring_buffer.specs.Pointers.{AreFreeFrom}

-- the free numbers behind the first
free_next : (given : ℕ) (o : Option Pointer) (os : List (Option Pointer)) → AreFreeFrom (suc given) (o ∷ os) → AreFreeFrom given os
free_next given o os free = λ n above. free (suc n) (omega (arith, above))

free_tail : (o : Option Pointer) (os : List (Option Pointer)) → AreFreeFrom 0 (o ∷ os) → AreFreeFrom 0 os
free_tail o os free = λ n above. free (suc n) (omega arith)

free_head : (o : Option Pointer) (os : List (Option Pointer)) → AreFreeFrom 0 (o ∷ os) → o ≡ None
free_head o os free = free 0 (omega arith)

-- no number is given at first
pub none_given : AreFreeFrom 0 (replicate 64 None)
none_given = λ n above. slot_free {X = Pointer} 64 n

-- each client changes
pub changed_free : (f : Pointer → Pointer) (given : ℕ) (old new : List (Option Pointer)) → new ≡ change_all f old → AreFreeFrom given old → AreFreeFrom given new
changed_free f given old new is free =
    λ n above. ap (λ (slots : List (Option Pointer)). slot_at slots n) is ∙ (slot_change_all f old n ∙ ap (option_map f) (free n above))

-- who is free stays
none_change : (f : Pointer → Pointer) (os : List (Option Pointer)) → AreFreeFrom 0 os → change_all f os ≡ os
none_change f [] free = refl
none_change f (o ∷ os) free =
    ap (λ (x : Option Pointer). x ∷ change_all f os) (ap (option_map f) (free_head o os free) ∙ sym (free_head o os free))
    ∙ ap (λ (xs : List (Option Pointer)). o ∷ xs) (none_change f os (free_tail o os free))

-- where those of the given numbers are changed, all are
pub all_changed : (f : Pointer → Pointer) (given : ℕ) (slots : List (Option Pointer)) → AreFreeFrom given slots → change_all f (take given slots) ++ drop given slots ≡ change_all f slots
all_changed f zero slots free = sym (none_change f slots free)
all_changed f (suc given) [] free = refl
all_changed f (suc given) (o ∷ os) free = ap (λ (xs : List (Option Pointer)). option_map f o ∷ xs) (all_changed f given os (free_next given o os free))

none_passes : (test : Pointer → Bool) (n : ℕ) (os : List (Option Pointer)) → AreFreeFrom 0 os → position_from (passes test) n os ≡ None
none_passes test n [] free = refl
none_passes test n (o ∷ os) free =
    ap (λ (x : Option Pointer). cond (passes test x) (Some n) (position_from (passes test) (n + 1) os)) (free_head o os free)
    ∙ none_passes test (n + 1) os (free_tail o os free)

same_first : (test : Pointer → Bool) (n given : ℕ) (slots : List (Option Pointer)) → AreFreeFrom given slots → position_from (passes test) n (take given slots) ≡ position_from (passes test) n slots
same_first test n zero slots free = sym (none_passes test n slots free)
same_first test n (suc given) [] free = refl
same_first test n (suc given) (o ∷ os) free =
    ap (λ (r : Option ℕ). cond (passes test o) (Some n) r) (same_first test (n + 1) given os (free_next given o os free))

-- the first of the given numbers that passes a test is the first of all
pub first_given : (test : Pointer → Bool) (given : ℕ) (slots : List (Option Pointer)) → AreFreeFrom given slots → first_slot test (take given slots) ≡ first_slot test slots
first_given test given slots free =
    position_from-zero (passes test) (take given slots)
    ∙ (same_first test 0 given slots free
    ∙ sym (position_from-zero (passes test) slots))
