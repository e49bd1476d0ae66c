-- Bank areas as lists of banks: which bytes spell which banks.
use Rattle.std.specs.Prelude.{◌≡◌, ℕ, ◌<◌, ◌^◌, List, [], ◌∷◌, ◌++◌, length, replicate}
use Rattle.std.specs.Int.{to_le_bytes, w32}
use Rattle.bank_format.specs.declared.formats.Format.{Format}
use Rattle.bank_format.specs.Formats.{flags_of, field_width, field_limit, reserved_len, padding_len}

-- a bank without where it lies in memory
pub record BankValue : Type 0 where
  pub name : List ℕ
  pub tid : ℕ
  pub body : List ℕ

abbrev pub bank_value : List ℕ → ℕ → List ℕ → BankValue
bank_value name tid body = record { name = name; tid = tid; body = body }

-- what a format can hold: any four bytes are a name, and any number of the field's width is a type
pub record IsBank (f : Format) (b : BankValue) : Type 0 where
  pub name : length b.name ≡ 4
  pub tid : b.tid < field_limit f
  pub size : length b.body < field_limit f

-- a type or a size, its low byte first
abbrev pub field : Format → ℕ → List ℕ
field f n = to_le_bytes (field_width f) n

-- a bank's header: name, type, size of the data without padding, and the reserved word where the format has one
abbrev pub header_fields : Format → (name : List ℕ) (tid size : ℕ) (reserved : List ℕ) → List ℕ
header_fields f name tid size reserved = name ++ (field f tid ++ (field f size ++ reserved))

abbrev pub header : Format → BankValue → List ℕ → List ℕ
header f b reserved = header_fields f b.name b.tid (length b.body) reserved

-- The bytes are a bank and a rest: the bank's header, its data, as many bytes as lead to a multiple of 8, and the
-- rest. The reserved word and the padding are any bytes.
pub record IsFirst (f : Format) (b : BankValue) (rest bytes : List ℕ) : Type 0 where
  pub bank : IsBank f b
  pub reserved : List ℕ
  pub padding : List ℕ
  pub reserved_is : length reserved ≡ reserved_len f
  pub padding_is : length padding ≡ padding_len (length b.body)
  pub spelled : bytes ≡ header f b reserved ++ (b.body ++ (padding ++ rest))

-- the bytes are these banks, one behind the other, and a rest
abbrev pub BanksBefore : Format → List BankValue → (rest bytes : List ℕ) → Type 0
BanksBefore f [] rest bytes = bytes ≡ rest
BanksBefore f (b ∷ bs) rest bytes = (middle : List ℕ) × IsFirst f b middle bytes × BanksBefore f bs rest middle

-- the bytes are the length of the area behind them, the flags of the format, and the area, which is these banks
pub record IsBankArea (f : Format) (bs : List BankValue) (bytes : List ℕ) : Type 0 where
  pub area : List ℕ
  pub banks : BanksBefore f bs [] area
  pub fits : length area < 2 ^ 32
  pub spelled : bytes ≡ to_le_bytes w32 (length area) ++ (to_le_bytes w32 (flags_of f) ++ area)

-- a bank with zeros in the reserved word and the padding
abbrev pub plain_header : Format → (name : List ℕ) (tid size : ℕ) → List ℕ
plain_header f name tid size = header_fields f name tid size (replicate (reserved_len f) 0)

abbrev pub plain_bank : Format → BankValue → List ℕ
plain_bank f b = plain_header f b.name b.tid (length b.body) ++ (b.body ++ replicate (padding_len (length b.body)) 0)

abbrev pub plain_area : Format → List BankValue → List ℕ
plain_area f [] = []
plain_area f (b ∷ bs) = plain_bank f b ++ plain_area f bs

-- the bank area with zeros in each reserved word and padding
unfoldable pub plain_banks : Format → List BankValue → List ℕ
plain_banks f bs = to_le_bytes w32 (length (plain_area f bs)) ++ (to_le_bytes w32 (flags_of f) ++ plain_area f bs)
