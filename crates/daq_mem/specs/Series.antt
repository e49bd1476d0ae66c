-- Numbers that are given one after another, of which the last repeats.
use Rattle.std.specs.Prelude.{ℕ, ◌+◌, ◌-◌, min, List, length, slice_index}

-- all the numbers, and the place of the next one
pub record NumberSeries : Type 0 where
  pub values : List ℕ
  pub next : ℕ

-- the number that comes after so many others: the last one repeats, and 0 where there is none
abbrev pub ahead_in : NumberSeries → ℕ → ℕ
ahead_in series n = slice_index series.values (min (series.next + n) (length series.values - 1))
