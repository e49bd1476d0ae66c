-- The banks of an area by the places of their fields.
use Rattle.std.specs.Prelude.{ℕ, zero, suc, ◌+◌, ◌≤◌, ◌==◌, List, [], ◌∷◌, length, take, drop, slice_index, Option, find, if◌then◌else◌}
use Rattle.std.specs.Int.{from_le_bytes, w16, w32}
use Rattle.std.specs.Cmp.Lexicographic.{pointwise}
use Rattle.std.specs.Prelude.{nat_eq}
use Rattle.bank_format.specs.declared.formats.Format.{Format}
use Rattle.bank_format.specs.declared.formats.Format.TheVariants.{Bank16, Bank32, Bank32A}
use Rattle.bank_format.specs.Formats.{header_len, padded}
use Rattle.bank_format.specs.BankAreas.{BankValue, bank_value}

abbrev pub number_16 : ℕ → ℕ → ℕ
number_16 a b = from_le_bytes w16 (a ∷ b ∷ [])

abbrev pub number_32 : ℕ → ℕ → ℕ → ℕ → ℕ
number_32 a b c d = from_le_bytes w32 (a ∷ b ∷ c ∷ d ∷ [])

-- the two numbers in front of an area: its length, and the flags of its format
unfoldable pub stated_length : List ℕ → ℕ
stated_length bytes = number_32 (slice_index bytes 0) (slice_index bytes 1) (slice_index bytes 2) (slice_index bytes 3)

unfoldable pub stated_flags : List ℕ → ℕ
stated_flags bytes = number_32 (slice_index bytes 4) (slice_index bytes 5) (slice_index bytes 6) (slice_index bytes 7)

-- the fields of a bank's header
unfoldable pub stated_name : List ℕ → List ℕ
stated_name bytes = slice_index bytes 0 ∷ slice_index bytes 1 ∷ slice_index bytes 2 ∷ slice_index bytes 3 ∷ []

unfoldable pub stated_tid : Format → List ℕ → ℕ
stated_tid Bank16 bytes = number_16 (slice_index bytes 4) (slice_index bytes 5)
stated_tid Bank32 bytes = number_32 (slice_index bytes 4) (slice_index bytes 5) (slice_index bytes 6) (slice_index bytes 7)
stated_tid Bank32A bytes = number_32 (slice_index bytes 4) (slice_index bytes 5) (slice_index bytes 6) (slice_index bytes 7)

unfoldable pub stated_size : Format → List ℕ → ℕ
stated_size Bank16 bytes = number_16 (slice_index bytes 6) (slice_index bytes 7)
stated_size Bank32 bytes = number_32 (slice_index bytes 8) (slice_index bytes 9) (slice_index bytes 10) (slice_index bytes 11)
stated_size Bank32A bytes = number_32 (slice_index bytes 8) (slice_index bytes 9) (slice_index bytes 10) (slice_index bytes 11)

-- the bank at the front, and what stands behind it
abbrev pub front_bank : Format → List ℕ → BankValue
front_bank f bytes = bank_value (stated_name bytes) (stated_tid f bytes) (take (stated_size f bytes) (drop (header_len f) bytes))

abbrev pub behind_bank : Format → List ℕ → List ℕ
behind_bank f bytes = drop (padded (stated_size f bytes)) (drop (header_len f) bytes)

-- a whole bank stands at the front
pub record HasBank (f : Format) (bytes : List ℕ) : Type 0 where
  pub header : header_len f ≤ length bytes
  pub with_data : header_len f + padded (stated_size f bytes) ≤ length bytes

-- the banks of the area, up to so many
unfoldable pub banks_within : ℕ → Format → List ℕ → List BankValue
banks_within zero f bytes = []
banks_within (suc n) f bytes = if length bytes == 0 then [] else front_bank f bytes ∷ banks_within n f (behind_bank f bytes)

-- the banks of an area that is nothing but whole banks
unfoldable pub banks_in : Format → List ℕ → List BankValue
banks_in f bytes = banks_within (length bytes) f bytes

-- what a reader sees: the banks of the area, and those that it has not given yet
pub record BankReading : Type 0 where
  pub all : List BankValue
  pub left : List BankValue

-- a reader that has given nothing
abbrev pub unread : List BankValue → BankReading
unread bs = record { all = bs; left = bs }

-- the first bank of a name
abbrev pub first_named : List ℕ → List BankValue → Option BankValue
first_named name bs = find (λ b. pointwise nat_eq b.name name) bs
