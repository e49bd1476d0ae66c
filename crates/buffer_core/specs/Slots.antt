-- Lists whose members have their place as their number, and where a number may be free.
use Rattle.std.specs.Prelude.{ℕ, Bool, false, List, Option, Some, None, map, position, is_none, slice_set}
use Rattle.std.specs.Option.{option_map}
use Rattle.std.specs.List.{list_any, slice_index_or}

-- the member with this number
abbrev pub slot_at : {X : Type 0} → List (Option X) → ℕ → Option X
slot_at xs n = slice_index_or xs n None

-- the least free number, if there is one
abbrev pub free_slot : {X : Type 0} → List (Option X) → Option ℕ
free_slot xs = position is_none xs

-- whether there is a member, and it passes the test
abbrev pub passes : {X : Type 0} → (X → Bool) → Option X → Bool
passes test None = false
passes test (Some x) = test x

-- whether some member passes the test
abbrev pub some_slot : {X : Type 0} → (X → Bool) → List (Option X) → Bool
some_slot test xs = list_any (passes test) xs

-- the least number of a member that passes the test
abbrev pub first_slot : {X : Type 0} → (X → Bool) → List (Option X) → Option ℕ
first_slot test xs = position (passes test) xs

-- the member with this number changes, if there is one
abbrev pub change_slot : {X : Type 0} → (X → X) → List (Option X) → ℕ → List (Option X)
change_slot f xs n = slice_set xs n (option_map f (slot_at xs n))

-- each member changes
abbrev pub change_all : {X : Type 0} → (X → X) → List (Option X) → List (Option X)
change_all f xs = map (option_map f) xs
