-- What a report counts of ids and of banks of integers.
use Rattle.std.specs.Prelude.{ℕ, ◌+◌, ◌*◌, ◌==◌, List, [], ◌∷◌, length, map, filter, fold, count_by, ℤ, pos, ◌+ℤ◌}
use Rattle.std.specs.Int.{from_be_bytes, w32, int_min, int_max}
use Rattle.std.specs.List.{flat_map}
use Rattle.daq_types.specs.Tids.{tid_code}
use Rattle.event_report.specs.declared.integers.IntegerType.{IntegerType}
use Rattle.event_report.specs.declared.rows.Figures.{Figures}
use Rattle.event_report.specs.declared.rows.IdRow.{IdRow}
use Rattle.event_report.specs.declared.rows.BankRow.{BankRow}
use Rattle.event_report.specs.Integers.{integer_tid}
use Rattle.event_report.specs.EventBanks.{IntegerBank}
use Rattle.event_report.specs.Listing.{listed, rest_count}
use Rattle.transitions.specs.Placing.{in_order}

-- ids: their rows by rising id, and how many events have an id without a row
pub record IdTally : Type 0 where
  pub rows : List IdRow
  pub rest : ℕ

abbrev pub own : ℕ → ℕ
own n = n

-- an id, and how many of the ids are it
abbrev pub id_row : List ℕ → ℕ → IdRow
id_row ids id = record { id = id; count = count_by (λ i. i == id) ids }

-- the ids of events, one for each event
abbrev pub id_tally : List ℕ → IdTally
id_tally ids = record { rows = map (id_row ids) (in_order own (listed own ids)); rest = rest_count own ids }

-- banks: their rows by rising name and type, and how many banks have a name and type without a row
pub record BankTally : Type 0 where
  pub rows : List BankRow
  pub rest : ℕ

-- The number by which names and types are told apart and put in order: the four bytes of the name, the first one
-- weighing most, and then the number of the type.
abbrev pub order_number : List ℕ → IntegerType → ℕ
order_number name kind = from_be_bytes w32 name * 256 + tid_code (integer_tid kind)

abbrev pub bank_number : IntegerBank → ℕ
bank_number b = order_number b.name b.kind

-- the items of all banks of a name and type, in their order
abbrev pub items_with : ℕ → List IntegerBank → List ℤ
items_with n banks = flat_map (λ b. b.items) (filter (λ b. bank_number b == n) banks)

abbrev pub total : List ℤ → ℤ
total items = fold ◌+ℤ◌ (pos 0) items

-- the least and the greatest of integers of which there are some
abbrev pub least_of : List ℤ → ℤ
least_of [] = pos 0
least_of (x ∷ xs) = fold int_min x xs

abbrev pub greatest_of : List ℤ → ℤ
greatest_of [] = pos 0
greatest_of (x ∷ xs) = fold int_max x xs

-- how many items, their sum, the least and the greatest
abbrev pub figures_of : List ℤ → Figures
figures_of items = record { count = length items; sum = total items; least = least_of items; greatest = greatest_of items }

-- the name and type of a bank, and the figures of all items of that name and type
abbrev pub bank_row : List IntegerBank → IntegerBank → BankRow
bank_row banks b = record { name = b.name; kind = b.kind; figures = figures_of (items_with (bank_number b) banks) }

abbrev pub bank_tally : List IntegerBank → BankTally
bank_tally banks = record { rows = map (bank_row banks) (in_order bank_number (listed bank_number banks)); rest = rest_count bank_number banks }
