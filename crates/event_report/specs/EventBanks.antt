-- The banks of an event, and those of them that are banks of integers.
use Rattle.std.specs.Prelude.{ℕ, zero, suc, ◌+◌, ◌==◌, Bool, ◌||◌, ◌&&◌, List, [], ◌∷◌, length, drop, Option, Some, None, is_some, nat_le, unwrap_or, option_and_then, ℤ, if◌then◌else◌}
use Rattle.std.specs.List.{filter_map, flat_map}
use Rattle.daq_types.specs.declared.events.Event.{Event}
use Rattle.bank_format.specs.declared.formats.Format.{Format}
use Rattle.bank_format.specs.Formats.{format_with, header_len, padded}
use Rattle.bank_format.specs.BankAreas.{BankValue}
use Rattle.bank_format.specs.Places.{stated_flags, stated_size, behind_bank, banks_in}
use Rattle.bank_format.specs.Faults.{front_fault}
use Rattle.event_report.specs.declared.integers.IntegerType.{IntegerType}
use Rattle.event_report.specs.Integers.{integer_type, whole_items}

-- whether the bytes are nothing but whole banks, of which there are at most so many
unfoldable pub are_banks : ℕ → Format → List ℕ → Bool
are_banks zero f bytes = length bytes == 0
are_banks (suc n) f bytes =
    (length bytes == 0) || (nat_le (header_len f + padded (stated_size f bytes)) (length bytes) && are_banks n f (behind_bank f bytes))

abbrev pub area_banks : Format → List ℕ → Option (List BankValue)
area_banks f area = if are_banks (length area) f area then Some (banks_in f area) else None

-- The banks of an event's data; None where the data are no bank area. The law `banks_of_an_event` says that these are
-- the bank areas of the format.
unfoldable pub banks_of : List ℕ → Option (List BankValue)
banks_of bytes =
    if is_some (front_fault bytes) then None
    else option_and_then (λ f. area_banks f (drop 8 bytes)) (format_with (stated_flags bytes))

-- a bank of integers: its name, its type and its whole items
pub record IntegerBank : Type 0 where
  pub name : List ℕ
  pub kind : IntegerType
  pub items : List ℤ

abbrev pub some_items : List ℕ → IntegerType → List ℤ → Option IntegerBank
some_items name kind [] = None
some_items name kind (x ∷ xs) = Some (record { name = name; kind = kind; items = x ∷ xs })

-- the bank as one of integers, if its type is an integer type and it has a whole item
abbrev pub integer_bank : BankValue → Option IntegerBank
integer_bank b = option_and_then (λ kind. some_items b.name kind (whole_items kind b.body)) (integer_type b.tid)

-- the banks of integers of an event: none where its data are no bank area
abbrev pub event_banks : Event → List IntegerBank
event_banks e = filter_map integer_bank (unwrap_or (banks_of e.body) [])

-- those of many events
abbrev pub integer_banks : List Event → List IntegerBank
integer_banks events = flat_map event_banks events
