-- The types of banks and keys: number, name, older name, and bytes of an item.
use Rattle.std.specs.Prelude.{◌≡◌, ◌⊎◌, ℕ, List, Option, Some, None, codes}
use Rattle.daq_types.specs.declared.types.Tid.{Tid}
use Rattle.daq_types.specs.declared.types.Tid.TheVariants.{UInt8, Int8, Char, UInt16, Int16, UInt32, Int32, Bool, Float, Double, BitField, Text, Array, Struct, Key, Link, Int64, UInt64}

-- its number
abbrev pub tid_code : Tid → ℕ
tid_code UInt8 = 1
tid_code Int8 = 2
tid_code Char = 3
tid_code UInt16 = 4
tid_code Int16 = 5
tid_code UInt32 = 6
tid_code Int32 = 7
tid_code Bool = 8
tid_code Float = 9
tid_code Double = 10
tid_code BitField = 11
tid_code Text = 12
tid_code Array = 13
tid_code Struct = 14
tid_code Key = 15
tid_code Link = 16
tid_code Int64 = 17
tid_code UInt64 = 18

-- its name
abbrev pub tid_name : Tid → List ℕ
tid_name UInt8 = codes "UINT8"
tid_name Int8 = codes "INT8"
tid_name Char = codes "CHAR"
tid_name UInt16 = codes "UINT16"
tid_name Int16 = codes "INT16"
tid_name UInt32 = codes "UINT32"
tid_name Int32 = codes "INT32"
tid_name Bool = codes "BOOL"
tid_name Float = codes "FLOAT"
tid_name Double = codes "DOUBLE"
tid_name BitField = codes "BITFIELD"
tid_name Text = codes "STRING"
tid_name Array = codes "ARRAY"
tid_name Struct = codes "STRUCT"
tid_name Key = codes "KEY"
tid_name Link = codes "LINK"
tid_name Int64 = codes "INT64"
tid_name UInt64 = codes "UINT64"

-- the name that older programs give it
abbrev pub tid_older_name : Tid → Option (List ℕ)
tid_older_name UInt8 = Some (codes "BYTE")
tid_older_name Int8 = Some (codes "SBYTE")
tid_older_name Char = None
tid_older_name UInt16 = Some (codes "WORD")
tid_older_name Int16 = Some (codes "SHORT")
tid_older_name UInt32 = Some (codes "DWORD")
tid_older_name Int32 = Some (codes "INT")
tid_older_name Bool = None
tid_older_name Float = None
tid_older_name Double = None
tid_older_name BitField = None
tid_older_name Text = None
tid_older_name Array = None
tid_older_name Struct = None
tid_older_name Key = None
tid_older_name Link = None
tid_older_name Int64 = None
tid_older_name UInt64 = None

-- the bytes of one item, 0 where it has no size of its own
abbrev pub tid_size : Tid → ℕ
tid_size UInt8 = 1
tid_size Int8 = 1
tid_size Char = 1
tid_size UInt16 = 2
tid_size Int16 = 2
tid_size UInt32 = 4
tid_size Int32 = 4
tid_size Bool = 4
tid_size Float = 4
tid_size Double = 8
tid_size BitField = 4
tid_size Text = 0
tid_size Array = 0
tid_size Struct = 0
tid_size Key = 0
tid_size Link = 0
tid_size Int64 = 8
tid_size UInt64 = 8

-- the text is its name or its older name
abbrev pub IsNamed : List ℕ → Tid → Type 0
IsNamed text tid = (tid_name tid ≡ text) ⊎ (tid_older_name tid ≡ Some text)
