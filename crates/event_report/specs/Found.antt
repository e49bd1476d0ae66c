-- Where a row stands among rows, and where a new one fits.
use Rattle.std.specs.Prelude.{◌≡◌, ℕ, ◌<◌, ◌≤◌, List, length, slice_index_or}

-- the row at this index has this number
pub record IsRowAt {R : Type 0} (number : R → ℕ) (n : ℕ) (rows : List R) (at : ℕ) : Type 0 where
  pub below : at < length rows
  pub is : (d : R) → number (slice_index_or rows at d) ≡ n

-- the rows in front of this index have lower numbers, and those from it on have higher ones
pub record FitsAt {R : Type 0} (number : R → ℕ) (n : ℕ) (rows : List R) (at : ℕ) : Type 0 where
  pub within : at ≤ length rows
  pub before : (k : ℕ) (d : R) → k < at → number (slice_index_or rows k d) < n
  pub behind : (k : ℕ) (d : R) → at ≤ k → k < length rows → n < number (slice_index_or rows k d)
