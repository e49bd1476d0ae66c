-- Integer types, and the integers that the bytes of a bank spell.
use Rattle.std.specs.Prelude.{ℕ, zero, suc, ◌/◌, ◌==◌, Bool, true, false, List, [], ◌∷◌, length, drop, slice_index, Option, Some, None, ℤ, pos, if◌then◌else◌}
use Rattle.std.specs.Int.{from_le_bytes, cast_signed, w8, w16, w32, w64}
use Rattle.daq_types.specs.declared.types.Tid.{Tid}
use Rattle.daq_types.specs.declared.types.Tid.TheVariants as tids
use Rattle.event_report.specs.declared.integers.IntegerType.{IntegerType}
use Rattle.event_report.specs.declared.integers.IntegerType.TheVariants.{UInt8, Int8, UInt16, Int16, UInt32, Int32, Int64, UInt64}

-- the type of banks and keys that it is
abbrev pub integer_tid : IntegerType → Tid
integer_tid UInt8 = tids.UInt8
integer_tid Int8 = tids.Int8
integer_tid UInt16 = tids.UInt16
integer_tid Int16 = tids.Int16
integer_tid UInt32 = tids.UInt32
integer_tid Int32 = tids.Int32
integer_tid Int64 = tids.Int64
integer_tid UInt64 = tids.UInt64

-- the integer type with this number; a number of any other type, or of none, is that of no integer type
abbrev pub integer_type : ℕ → Option IntegerType
integer_type code =
    if code == 1 then Some UInt8
    else (if code == 2 then Some Int8
    else (if code == 4 then Some UInt16
    else (if code == 5 then Some Int16
    else (if code == 6 then Some UInt32
    else (if code == 7 then Some Int32
    else (if code == 17 then Some Int64
    else (if code == 18 then Some UInt64
    else None)))))))

-- the bytes of one item
abbrev pub item_size : IntegerType → ℕ
item_size UInt8 = 1
item_size Int8 = 1
item_size UInt16 = 2
item_size Int16 = 2
item_size UInt32 = 4
item_size Int32 = 4
item_size Int64 = 8
item_size UInt64 = 8

-- whether each item fits in 64 bits with a sign
abbrev pub is_narrow : IntegerType → Bool
is_narrow UInt8 = true
is_narrow Int8 = true
is_narrow UInt16 = true
is_narrow Int16 = true
is_narrow UInt32 = true
is_narrow Int32 = true
is_narrow Int64 = true
is_narrow UInt64 = false

-- the item at the front of the bytes, its low byte first; in a signed type the highest bit says that it is below zero
abbrev pub first_item : IntegerType → List ℕ → ℤ
first_item UInt8 bytes = pos (slice_index bytes 0)
first_item Int8 bytes = cast_signed w8 (slice_index bytes 0)
first_item UInt16 bytes = pos (from_le_bytes w16 bytes)
first_item Int16 bytes = cast_signed w16 (from_le_bytes w16 bytes)
first_item UInt32 bytes = pos (from_le_bytes w32 bytes)
first_item Int32 bytes = cast_signed w32 (from_le_bytes w32 bytes)
first_item Int64 bytes = cast_signed w64 (from_le_bytes w64 bytes)
first_item UInt64 bytes = pos (from_le_bytes w64 bytes)

-- so many items, one behind the other, from the front of the bytes on
abbrev pub items_from : IntegerType → ℕ → List ℕ → List ℤ
items_from kind zero bytes = []
items_from kind (suc n) bytes = first_item kind bytes ∷ items_from kind n (drop (item_size kind) bytes)

-- the whole items of a bank's data; bytes behind the last whole item are passed over
abbrev pub whole_items : IntegerType → List ℕ → List ℤ
whole_items kind body = items_from kind (length body / item_size kind) body
