-- The types of values and the kinds of requests that a script names.
use Rattle.std.specs.Prelude.{ℕ, Bool, false, ◌||◌, if◌then◌else◌, nat_eq, List, [], ◌∷◌, Option, Some, None, codes}
use Rattle.std.specs.List.{find}
use Rattle.std.specs.Cmp.Lexicographic.{pointwise}
use Rattle.daq_types.specs.declared.runs.Kind.{Kind}
use Rattle.daq_types.specs.declared.runs.Kind.TheVariants.{All as GetAll, NonBlocking}
use Rattle.daq_types.specs.declared.types.Tid.{Tid}
use Rattle.daq_types.specs.declared.types.Tid.TheVariants.{UInt8, Int8, Char, UInt16, Int16, UInt32, Int32, Bool as Truth, Float, Double, BitField, Text, Array, Struct, Key, Link, Int64, UInt64}
use Rattle.daq_types.specs.Tids.{tid_name, tid_older_name}

-- two texts are the same, byte for byte
abbrev pub is_text : List ℕ → List ℕ → Bool
is_text = pointwise nat_eq

abbrev pub is_some_text : Option (List ℕ) → List ℕ → Bool
is_some_text None text = false
is_some_text (Some name) text = is_text name text

-- the text is the type's name or its older name
abbrev pub names_type : List ℕ → Tid → Bool
names_type text tid = is_text (tid_name tid) text || is_some_text (tid_older_name tid) text

abbrev pub every_type : List Tid
every_type = UInt8 ∷ Int8 ∷ Char ∷ UInt16 ∷ Int16 ∷ UInt32 ∷ Int32 ∷ Truth ∷ Float ∷ Double ∷ BitField ∷ Text ∷ Array ∷ Struct ∷ Key ∷ Link ∷ Int64 ∷ UInt64 ∷ []

-- the type that a text names
unfoldable pub type_named : List ℕ → Option Tid
type_named text = find (names_type text) every_type

-- the kind of request that a text names: GET_ALL or GET_NONBLOCKING
unfoldable pub kind_named : List ℕ → Option Kind
kind_named text =
    if is_text text (codes "all") then Some GetAll
    else if is_text text (codes "some") then Some NonBlocking
    else None
