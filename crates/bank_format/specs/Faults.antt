-- What is wrong with bytes that are no bank area: the fault that is found first.
use Rattle.std.specs.Prelude.{◌≡◌, ℕ, ◌+◌, ◌-◌, ◌==◌, List, length, drop, Option, Some, None, is_none, nat_lt, ◌⊎◌, if◌then◌else◌}
use Rattle.bank_format.specs.declared.formats.Format.{Format}
use Rattle.bank_format.specs.declared.faults.BankFault.{BankFault}
use Rattle.bank_format.specs.declared.faults.BankFault.TheVariants.{Short, BadFlags, BadSize}
use Rattle.bank_format.specs.Formats.{format_with, header_len, padded}
use Rattle.bank_format.specs.BankAreas.{BankValue, BanksBefore, IsBankArea}
use Rattle.bank_format.specs.Places.{stated_length, stated_flags, stated_size}

-- In front: too few bytes for the two numbers; flags that name no format; too few or too many bytes for the length.
unfoldable pub front_fault : List ℕ → Option BankFault
front_fault bytes =
    if nat_lt (length bytes) 8 then Some (Short (length bytes))
    else (if is_none (format_with (stated_flags bytes)) then Some (BadFlags (stated_flags bytes))
    else (if nat_lt (length bytes) (8 + stated_length bytes) then Some (Short (length bytes))
    else (if nat_lt (8 + stated_length bytes) (length bytes) then Some (BadSize 0)
    else None)))

-- At a bank, where the whole is so long and so many bytes are left: too few bytes for the header, or for the data with
-- their padding. Where nothing is left, no bank is missing.
unfoldable pub bank_fault : Format → ℕ → List ℕ → Option BankFault
bank_fault f total left =
    if length left == 0 then None
    else (if nat_lt (length left) (header_len f) then Some (Short total)
    else (if nat_lt (length left) (header_len f + padded (stated_size f left)) then Some (BadSize (total - length left))
    else None))

-- some whole banks lead from one place of an area to another
pub record PassesBanks (f : Format) (area left : List ℕ) : Type 0 where
  pub banks : List BankValue
  pub before : BanksBefore f banks left area

-- behind some whole banks of the area stands one that does not fit
pub record BreaksOff (f : Format) (total : ℕ) (area : List ℕ) (fault : BankFault) : Type 0 where
  pub left : List ℕ
  pub passes : PassesBanks f area left
  pub is : bank_fault f total left ≡ Some fault

-- the front is right and names a format, and in the area a bank does not fit
pub record AreaBreaksOff (bytes : List ℕ) (fault : BankFault) : Type 0 where
  pub format : Format
  pub front : front_fault bytes ≡ None
  pub named : format_with (stated_flags bytes) ≡ Some format
  pub bank : BreaksOff format (length bytes) (drop 8 bytes) fault

-- the fault that is found first
abbrev pub IsFirstFault : List ℕ → BankFault → Type 0
IsFirstFault bytes fault = (front_fault bytes ≡ Some fault) ⊎ AreaBreaksOff bytes fault

-- the bytes are a bank area of these banks, in some format
abbrev pub HoldsBanks : List BankValue → List ℕ → Type 0
HoldsBanks bs bytes = (f : Format) × IsBankArea f bs bytes
