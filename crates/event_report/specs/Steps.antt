-- What one more id, or one more bank of integers, makes of a tally: the rows that are there are changed or get one more.
use Rattle.std.specs.Prelude.{ℕ, ◌+◌, ◌==◌, Bool, ◌||◌, List, [], ◌∷◌, length, map, fold, Option, Some, None, nat_lt, ℤ, ◌+ℤ◌, if◌then◌else◌}
use Rattle.std.specs.Int.{int_min, int_max}
use Rattle.event_report.specs.declared.figures.NarrowFigures.{NarrowFigures}
use Rattle.event_report.specs.declared.rows.Figures.{Figures}
use Rattle.event_report.specs.declared.rows.IdRow.{IdRow}
use Rattle.event_report.specs.declared.rows.BankRow.{BankRow}
use Rattle.event_report.specs.EventBanks.{IntegerBank}
use Rattle.event_report.specs.Listing.{row_limit, has}
use Rattle.transitions.specs.Placing.{placed}
use Rattle.event_report.specs.Tallies.{IdTally, BankTally, order_number, bank_number, figures_of}

-- whether what has this number is counted in a row
abbrev pub takes : {R : Type 0} → (R → ℕ) → ℕ → List R → Bool
takes number n rows = has number n rows || nat_lt (length rows) row_limit

abbrev pub changed_row : {R : Type 0} → (R → ℕ) → ℕ → (R → R) → R → R
changed_row number n change row = if number row == n then change row else row

-- the row of this number is changed; where there is none, and there is place, a new row stands there
abbrev pub rows_with : {R : Type 0} → (R → ℕ) → ℕ → (change : R → R) (fresh : R) → List R → List R
rows_with number n change fresh rows =
    if has number n rows then map (changed_row number n change) rows
    else (if nat_lt (length rows) row_limit then placed number fresh rows else rows)

abbrev pub rest_after : Bool → ℕ → ℕ
rest_after taken rest = if taken then rest else rest + 1

abbrev pub id_of : IdRow → ℕ
id_of r = r.id

abbrev pub one_more : IdRow → IdRow
one_more r = record r { count = r.count + 1 }

unfoldable pub id_rows_after : ℕ → List IdRow → List IdRow
id_rows_after id rows = rows_with id_of id one_more (record { id = id; count = 1 }) rows

abbrev pub id_tally_after : ℕ → IdTally → IdTally
id_tally_after id t = record { rows = id_rows_after id t.rows; rest = rest_after (takes id_of id t.rows) t.rest }

-- the figures of two lists of integers, of which there are some in each, together
abbrev pub joined_figures : Figures → Figures → Figures
joined_figures a b = record { count = a.count + b.count; sum = a.sum +ℤ b.sum; least = int_min a.least b.least; greatest = int_max a.greatest b.greatest }

abbrev pub row_number : BankRow → ℕ
row_number r = order_number r.name r.kind

abbrev pub more_figures : Figures → BankRow → BankRow
more_figures f r = record r { figures = joined_figures r.figures f }

unfoldable pub bank_rows_after : BankRow → List BankRow → List BankRow
bank_rows_after b rows = rows_with row_number (row_number b) (more_figures b.figures) b rows

-- a bank, and the figures of its own items
abbrev pub own_row : IntegerBank → BankRow
own_row b = record { name = b.name; kind = b.kind; figures = figures_of b.items }

abbrev pub bank_tally_after : BankTally → IntegerBank → BankTally
bank_tally_after t b =
    record { rows = bank_rows_after (own_row b) t.rows; rest = rest_after (takes row_number (bank_number b) t.rows) t.rest }

-- after some banks
abbrev pub banks_after : BankTally → List IntegerBank → BankTally
banks_after t banks = fold bank_tally_after t banks

-- the figures of integers, if there are some
abbrev pub some_figures : List ℤ → Option Figures
some_figures [] = None
some_figures (x ∷ xs) = Some (figures_of (x ∷ xs))

-- figures of items that fit in 64 bits with a sign, as figures of any
abbrev pub widened : NarrowFigures → Figures
widened f = record { count = f.count; sum = f.sum; least = f.least; greatest = f.greatest }
