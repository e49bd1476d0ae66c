-- The three formats of a bank area.
use Rattle.std.specs.Prelude.{ℕ, ◌+◌, ◌-◌, ◌*◌, ◌/◌, ◌^◌, ◌==◌, Bool, false, Option, Some, None, nat_le, if◌then◌else◌}
use Rattle.std.specs.Int.{Width, w16, w32}
use Rattle.bank_format.specs.declared.formats.Format.{Format}
use Rattle.bank_format.specs.declared.formats.Format.TheVariants.{Bank16, Bank32, Bank32A}

-- the number that names the format in front of an area
abbrev pub flags_of : Format → ℕ
flags_of Bank16 = 1
flags_of Bank32 = 17
flags_of Bank32A = 49

-- the format that a number names
abbrev pub format_with : ℕ → Option Format
format_with flags = if flags == 1 then Some Bank16 else (if flags == 17 then Some Bank32 else (if flags == 49 then Some Bank32A else None))

-- how wide a bank's type and size are
abbrev pub field_width : Format → Width
field_width Bank16 = w16
field_width Bank32 = w32
field_width Bank32A = w32

-- what a type or a size is below
abbrev pub field_limit : Format → ℕ
field_limit Bank16 = 2 ^ 16
field_limit Bank32 = 2 ^ 32
field_limit Bank32A = 2 ^ 32

-- the bytes of the reserved word at the end of a bank's header
abbrev pub reserved_len : Format → ℕ
reserved_len Bank16 = 0
reserved_len Bank32 = 0
reserved_len Bank32A = 4

-- the bytes of a bank's header
abbrev pub header_len : Format → ℕ
header_len Bank16 = 8
header_len Bank32 = 12
header_len Bank32A = 16

-- whether a number does not fit the fields of 16 bits, in the format that has these
abbrev pub is_past_16_bits : Format → ℕ → Bool
is_past_16_bits Bank16 n = nat_le (2 ^ 16) n
is_past_16_bits Bank32 n = false
is_past_16_bits Bank32A n = false

-- a size up to a multiple of 8
abbrev pub padded : ℕ → ℕ
padded size = (size + 7) / 8 * 8

-- the bytes from a size up to a multiple of 8
abbrev pub padding_len : ℕ → ℕ
padding_len size = padded size - size
