-- The items of the online database: their types, and the values that each type has.
use Rattle.std.specs.Prelude.{◌≡◌, ◌^◌, ◌<◌, IsTrue, Bool, true, false, FitsSigned}
use Rattle.std.specs.Int.{w8, w16, w32, w64}
use Rattle.daq_types.specs.declared.types.Tid.{Tid}
use Rattle.daq_types.specs.declared.types.Tid.TheVariants as tid
use Rattle.odb_value.specs.declared.items.Item.{Item}
use Rattle.odb_value.specs.declared.items.Item.TheVariants.{UInt8, Int8, Char, UInt16, Int16, UInt32, Int32, Bool as Truth, Text, Int64, UInt64}
use Rattle.odb_value.specs.ItemBytes.{is_char_byte, IsText}

-- the type of an item
abbrev pub tid_of : Item → Tid
tid_of (UInt8 n) = tid.UInt8
tid_of (Int8 z) = tid.Int8
tid_of (Char b) = tid.Char
tid_of (UInt16 n) = tid.UInt16
tid_of (Int16 z) = tid.Int16
tid_of (UInt32 n) = tid.UInt32
tid_of (Int32 z) = tid.Int32
tid_of (Truth t) = tid.Bool
tid_of (Text bytes) = tid.Text
tid_of (Int64 z) = tid.Int64
tid_of (UInt64 n) = tid.UInt64

-- the item's value is one of its type's
abbrev pub IsSound : Item → Type 0
IsSound (UInt8 n) = n < 2 ^ 8
IsSound (Int8 z) = FitsSigned w8 z
IsSound (Char b) = IsTrue (is_char_byte b)
IsSound (UInt16 n) = n < 2 ^ 16
IsSound (Int16 z) = FitsSigned w16 z
IsSound (UInt32 n) = n < 2 ^ 32
IsSound (Int32 z) = FitsSigned w32 z
IsSound (Truth t) = Unit {0}
IsSound (Text bytes) = IsText bytes
IsSound (Int64 z) = FitsSigned w64 z
IsSound (UInt64 n) = n < 2 ^ 64

-- an item of this type
pub record IsItem (type : Tid) (item : Item) : Type 0 where
  pub tid : tid_of item ≡ type
  pub sound : IsSound item

-- the types of which the database keeps values
abbrev pub is_kept : Tid → Bool
is_kept tid.UInt8 = true
is_kept tid.Int8 = true
is_kept tid.Char = true
is_kept tid.UInt16 = true
is_kept tid.Int16 = true
is_kept tid.UInt32 = true
is_kept tid.Int32 = true
is_kept tid.Bool = true
is_kept tid.Float = false
is_kept tid.Double = false
is_kept tid.BitField = false
is_kept tid.Text = true
is_kept tid.Array = false
is_kept tid.Struct = false
is_kept tid.Key = false
is_kept tid.Link = false
is_kept tid.Int64 = true
is_kept tid.UInt64 = true
