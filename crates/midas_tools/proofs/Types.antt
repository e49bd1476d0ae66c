-- The type of a number, as it is looked up.
use Rattle.std.proofs.Common.{◌≡◌, ◌≢◌, ℕ, ◌==◌, List, [], ◌∷◌, Some, None, find, refl, subst, ne_eqb}
use Rattle.daq_types.specs.Tids.{tid_code}
use Rattle.daq_types.specs.declared.types.Tid.{Tid}
use Rattle.daq_types.specs.declared.types.Tid.TheVariants.{UInt8, Int8, Char, UInt16, Int16, UInt32, Int32, Bool, Float, Double, BitField, Text, Array, Struct, Key, Link, Int64, UInt64}
use Rattle.midas_tools.specs.Texts.{all_types, type_of}

own_type : (tid : Tid) → type_of (tid_code tid) ≡ Some tid
unfolding type_of
own_type UInt8 = refl
own_type Int8 = refl
own_type Char = refl
own_type UInt16 = refl
own_type Int16 = refl
own_type UInt32 = refl
own_type Int32 = refl
own_type Bool = refl
own_type Float = refl
own_type Double = refl
own_type BitField = refl
own_type Text = refl
own_type Array = refl
own_type Struct = refl
own_type Key = refl
own_type Link = refl
own_type Int64 = refl
own_type UInt64 = refl

pub type_is : (code : ℕ) (tid : Tid) → tid_code tid ≡ code → type_of code ≡ Some tid
type_is code tid e = subst (λ (n : ℕ). type_of n ≡ Some tid) e (own_type tid)

none_in : (code : ℕ) → ((tid : Tid) → tid_code tid ≢ code) → (tids : List Tid) → find (λ tid. tid_code tid == code) tids ≡ None
none_in code none [] = refl
none_in code none (tid ∷ tids) = rw (ne_eqb (tid_code tid) code (none tid)) (none_in code none tids)

pub type_is_none : (code : ℕ) → ((tid : Tid) → tid_code tid ≢ code) → type_of code ≡ None
unfolding type_of
type_is_none code none = none_in code none all_types
