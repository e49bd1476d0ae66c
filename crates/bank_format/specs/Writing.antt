-- What a writer of banks sees.
use Rattle.std.specs.Prelude.{ℕ, List, [], ◌∷◌, ◌++◌, length, Option, Some, None, nat_lt, if◌then◌else◌}
use Rattle.bank_format.specs.declared.formats.Format.{Format}
use Rattle.bank_format.specs.declared.faults.BankRefusal.{BankRefusal}
use Rattle.bank_format.specs.declared.faults.BankRefusal.TheVariants.{TooLong, BadTid, NoRoom}
use Rattle.bank_format.specs.Formats.{is_past_16_bits}
use Rattle.bank_format.specs.BankAreas.{BankValue, plain_banks}

-- a format, how many bytes the whole may have, and the banks that were added
pub record Written : Type 0 where
  pub format : Format
  pub limit : ℕ
  pub banks : List BankValue

-- nothing was added yet
abbrev pub nothing_written : Format → ℕ → Written
nothing_written format limit = record { format = format; limit = limit; banks = [] }

-- one bank more
abbrev pub with_bank : Written → BankValue → Written
with_bank w b = record w { banks = w.banks ++ b ∷ [] }

-- the length of the whole with one bank more
abbrev pub need_with : Written → BankValue → ℕ
need_with w b = length (plain_banks w.format (w.banks ++ b ∷ []))

-- why a bank is refused, if it is: it is too long for 16 bits, its type is, or the whole would be longer than the limit
unfoldable pub refusal_of : Written → BankValue → Option BankRefusal
refusal_of w b =
    if is_past_16_bits w.format (length b.body) then Some (TooLong (length b.body))
    else (if is_past_16_bits w.format b.tid then Some (BadTid b.tid)
    else (if nat_lt w.limit (need_with w b) then Some (NoRoom (need_with w b))
    else None))
