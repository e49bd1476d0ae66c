-- Lists of bytes by number.
use Rattle.std.specs.Prelude.{◌≡◌, ◌≢◌, ℕ, List, [], length, slice_index_or}

-- the bytes of this number; none where there is no such number
abbrev pub trace_at : List (List ℕ) → ℕ → List ℕ
trace_at traces number = slice_index_or traces number []

-- One number has these bytes, and the others are as they were.
pub record ChangesTrace (old new : List (List ℕ)) (number : ℕ) (bytes : List ℕ) : Type 0 where
  pub count : length new ≡ length old
  pub trace_is : trace_at new number ≡ bytes
  pub others : (other : ℕ) → other ≢ number → trace_at new other ≡ trace_at old other
