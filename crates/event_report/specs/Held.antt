-- How a report holds its rows, and how large its numbers can be.
use Rattle.std.specs.Prelude.{◌≡◌, ℕ, ◌+◌, ◌*◌, ◌^◌, ◌<◌, ◌≤◌, List, All, length, slice_index_or, pos, neg_ℤ, ◌≤ℤ◌, vec_len, vec_capacity, sum_by}
use Rattle.std.specs.Global.{Vec}
use Rattle.bank_format.specs.BankAreas.{BankValue}
use Rattle.event_report.specs.declared.rows.Figures.{Figures}
use Rattle.event_report.specs.Listing.{row_limit}
use Rattle.event_report.specs.Tallies.{IdTally, BankTally}

-- each stands above those in front of it
abbrev pub IsRising : {R : Type 0} → (R → ℕ) → List R → Type 0
IsRising {R} number rows = (i j : ℕ) (d : R) → i < j → j < length rows → number (slice_index_or rows i d) < number (slice_index_or rows j d)

-- rows by rising numbers, with room for all that there can be
pub record IsTable {R : Type 0} (number : R → ℕ) (rows : Vec R) : Type 0 where
  pub rising : IsRising number rows.items
  pub counted : vec_len rows ≡ length rows.items
  pub most : vec_len rows ≤ row_limit
  pub room : row_limit ≤ vec_capacity rows

-- no count is above m
pub record IdsWithin (m : ℕ) (t : IdTally) : Type 0 where
  pub rows : All (λ r. r.count ≤ m) t.rows
  pub rest : t.rest ≤ m

-- a sum of so many integers of 64 bits, with sign or without
pub record FiguresWithin (m : ℕ) (f : Figures) : Type 0 where
  pub count : f.count ≤ m
  pub low : neg_ℤ (pos (f.count * 2 ^ 64)) ≤ℤ f.sum
  pub high : f.sum ≤ℤ pos (f.count * 2 ^ 64)

pub record BanksWithin (m : ℕ) (t : BankTally) : Type 0 where
  pub rows : All (λ r. FiguresWithin m r.figures) t.rows
  pub rest : t.rest ≤ m

-- more than the bytes of data of banks, and more than how many they are
abbrev pub weight : List BankValue → ℕ
weight banks = sum_by (λ b. 1 + length b.body) banks

-- the bytes of the events bound each count
pub record IsWithinBytes (bytes events : ℕ) (ids : IdTally) (banks : BankTally) (bad : ℕ) : Type 0 where
  pub most : bytes ≤ 2 ^ 62
  pub events_within : events ≤ bytes
  pub ids_within : IdsWithin bytes ids
  pub banks_within : BanksWithin bytes banks
  pub bad_within : bad ≤ bytes
