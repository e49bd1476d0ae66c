-- The table of all types.
use Rattle.std.proofs.Common.{◌≡◌, ℕ, ◌<◌, List, [], ◌∷◌, Option, Some, None, get_or, length, refl, subst, arith}
use Rattle.std.specs.List.{AllWithin}
use Rattle.std.specs.Option.{MatchOption, IfSome, IfNone}
use Rattle.daq_types.specs.Tids.{IsNamed}
use Rattle.daq_types.specs.declared.types.Tid.{Tid}
use Rattle.daq_types.specs.declared.types.Tid.TheVariants.{UInt8, Int8, Char, UInt16, Int16, UInt32, Int32, Bool, Float, Double, BitField, Text, Array, Struct, Key, Link, Int64, UInt64}

abbrev pub every_tid : List Tid
every_tid = UInt8 ∷ Int8 ∷ Char ∷ UInt16 ∷ Int16 ∷ UInt32 ∷ Int32 ∷ Bool ∷ Float ∷ Double ∷ BitField ∷ Text ∷ Array ∷ Struct ∷ Key ∷ Link ∷ Int64 ∷ UInt64 ∷ []

stands_in_table : (tid : Tid) → (k : ℕ) × (k < length every_tid) × (get_or every_tid k tid ≡ tid)
stands_in_table UInt8 = (0, omega arith, refl)
stands_in_table Int8 = (1, omega arith, refl)
stands_in_table Char = (2, omega arith, refl)
stands_in_table UInt16 = (3, omega arith, refl)
stands_in_table Int16 = (4, omega arith, refl)
stands_in_table UInt32 = (5, omega arith, refl)
stands_in_table Int32 = (6, omega arith, refl)
stands_in_table Bool = (7, omega arith, refl)
stands_in_table Float = (8, omega arith, refl)
stands_in_table Double = (9, omega arith, refl)
stands_in_table BitField = (10, omega arith, refl)
stands_in_table Text = (11, omega arith, refl)
stands_in_table Array = (12, omega arith, refl)
stands_in_table Struct = (13, omega arith, refl)
stands_in_table Key = (14, omega arith, refl)
stands_in_table Link = (15, omega arith, refl)
stands_in_table Int64 = (16, omega arith, refl)
stands_in_table UInt64 = (17, omega arith, refl)

-- What holds of each type in the table holds of every type.
pub every_tid_has : (P : Tid → Type 0) → AllWithin P every_tid 0 (length every_tid) → (tid : Tid) → P tid
every_tid_has P of_table tid =
    let place = stands_in_table tid in
    subst P place.2 (of_table place.0 tid (omega arith) place.1)

-- What is found in the table has the name, and where nothing is found no type has it.
pub found_has_name : (name : List ℕ) (found : Option Tid) (P : Type 0) (Q : Tid → Type 0) → MatchOption found P Q → ((tid : Tid) → Q tid → IsNamed name tid) → IfSome found (IsNamed name)
found_has_name name None _ _ _ _ = tt
found_has_name name (Some tid) _ _ first has_name = has_name tid first

pub none_has_name : (name : List ℕ) (found : Option Tid) (Q : Tid → Type 0) → MatchOption found (AllWithin (λ tid. ¬ (IsNamed name tid)) every_tid 0 (length every_tid)) Q
    → IfNone found ((tid : Tid) → ¬ (IsNamed name tid))
none_has_name name None _ of_table = every_tid_has (λ tid. ¬ (IsNamed name tid)) of_table
none_has_name name (Some tid) _ _ = tt
