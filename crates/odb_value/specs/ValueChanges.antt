-- New values, and the changes of a value.
use Rattle.std.specs.Prelude.{ℕ, ◌+◌, ◌-◌, [], ◌++◌, length, take, replicate, slice_set, max, pos, false}
use Rattle.daq_types.specs.declared.types.Tid.{Tid}
use Rattle.daq_types.specs.declared.types.Tid.TheVariants as tid
use Rattle.daq_types.specs.Tids.{tid_size}
use Rattle.odb_value.specs.declared.items.Item.{Item}
use Rattle.odb_value.specs.declared.items.Item.TheVariants.{UInt8, Int8, Char, UInt16, Int16, UInt32, Int32, Bool as Truth, Text, Int64, UInt64}
use Rattle.odb_value.specs.Values.{HeldValue}

-- The item of a new key: 0, n or the empty text. For a type of which the database keeps no values nothing is meant.
abbrev pub default_item : Tid → Item
default_item tid.UInt8 = UInt8 0
default_item tid.Int8 = Int8 (pos 0)
default_item tid.Char = Char 0
default_item tid.UInt16 = UInt16 0
default_item tid.Int16 = Int16 (pos 0)
default_item tid.UInt32 = UInt32 0
default_item tid.Int32 = Int32 (pos 0)
default_item tid.Text = Text []
default_item tid.Int64 = Int64 (pos 0)
default_item tid.UInt64 = UInt64 0
default_item type = Truth false

-- the item size of a new key
abbrev pub default_size : Tid → ℕ
default_size tid.Text = 32
default_size type = tid_size type

-- a new key's value, with so many items
abbrev pub new_held : Tid → ℕ → HeldValue
new_held type len = record { tid = type; size = default_size type; items = replicate len (default_item type) }

-- the item size with this item in the value: a text as long as it or longer raises it to its length plus 1
abbrev pub size_with_item : ℕ → Item → ℕ
size_with_item size (Text bytes) = max size (length bytes + 1)
size_with_item size item = size

-- the value with this item at the index
abbrev pub put_in : HeldValue → ℕ → Item → HeldValue
put_in v index item = record { tid = v.tid; size = size_with_item v.size item; items = slice_set v.items index item }

-- the value with so many items: cut at the end, or with those of a new key behind
abbrev pub resized : HeldValue → ℕ → HeldValue
resized v len = record { tid = v.tid; size = v.size; items = take len (v.items ++ replicate (len - length v.items) (default_item v.tid)) }
