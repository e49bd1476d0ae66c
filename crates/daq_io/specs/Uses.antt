-- What the numbers of files are in use for.
use Rattle.std.specs.Prelude.{◌≡◌, ◌≢◌, ℕ, ◌+◌, Bool, true, false, if◌then◌else◌, count_by, length, List, [], Option, Some, None, slice_get}
use Rattle.daq_io.specs.Seen.{Seen, FileDone}
use Rattle.daq_io.specs.declared.uses.Usage.{Usage}
use Rattle.daq_io.specs.declared.uses.Usage.TheVariants.{Free, Writing, Reading}

abbrev pub is_writing : Usage → Bool
is_writing Free = false
is_writing (Writing name) = true
is_writing (Reading name) = false

abbrev pub is_reading : Usage → Bool
is_reading Free = false
is_reading (Writing name) = false
is_reading (Reading name) = true

abbrev pub name_by : Usage → List ℕ
name_by Free = []
name_by (Writing name) = name
name_by (Reading name) = name

-- a number that is none of them is in no use
abbrev pub usage_or_free : Option Usage → Usage
usage_or_free None = Free
usage_or_free (Some usage) = usage

-- what a number is in use for
abbrev pub use_at : List Usage → ℕ → Usage
use_at uses number = usage_or_free (slice_get uses number)

-- One number has this use, and the others are as they were.
pub record ChangesUse (old new : List Usage) (number : ℕ) (usage : Usage) : Type 0 where
  pub usage_is : use_at new number ≡ usage
  pub others : (other : ℕ) → other ≢ number → use_at new other ≡ use_at old other

abbrev pub is_unused : Usage → Bool
is_unused Free = true
is_unused (Writing name) = false
is_unused (Reading name) = false

-- how many numbers are in no use
abbrev pub free_numbers : List Usage → ℕ
free_numbers uses = count_by is_unused uses

-- One number went from its use to this one: so many numbers are in no use.
pub record CountsUse (old new : List Usage) (number : ℕ) (usage : Usage) : Type 0 where
  pub count : length new ≡ length old
  pub free : free_numbers new + (if is_unused (use_at old number) then 1 else 0) ≡ free_numbers old + (if is_unused usage then 1 else 0)

-- the numbers in use and their names, what was given under them, and what was done, where no name of a file is told
abbrev pub told_numbers : List Usage → (given : ℕ → List ℕ) → List FileDone → Seen
told_numbers uses given done = record {
  names = false;
  at = λ name. None;
  writes = λ n. is_writing (use_at uses n);
  reads = λ n. is_reading (use_at uses n);
  name_of = λ n. name_by (use_at uses n);
  left = λ n. [];
  given = given;
  done = done;
}
