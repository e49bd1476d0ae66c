-- The bytes of a CHAR and of a STRING's text.
use Rattle.std.specs.Prelude.{ℕ, Bool, ◌==◌, ◌||◌, ◌&&◌, nat_le, IsTrue, List, All}

-- printable ASCII, with the blank
abbrev pub is_printable : ℕ → Bool
is_printable b = nat_le 32 b && nat_le b 126

-- a CHAR has a printable byte, or 0 for none
abbrev pub is_char_byte : ℕ → Bool
is_char_byte b = b == 0 || is_printable b

-- a text has tabs, printable bytes and bytes from 0x80
abbrev pub is_text_byte : ℕ → Bool
is_text_byte b = b == 9 || (is_printable b || (nat_le 128 b && nat_le b 255))

abbrev pub IsText : List ℕ → Type 0
IsText bytes = All (λ b. IsTrue (is_text_byte b)) bytes
