-- What files in memory tell, with their plan and their room.
use Rattle.std.specs.Prelude.{◌≡◌, ℕ, ◌+◌, ◌≤◌, ◌<◌, ◌==◌, ◌||◌, nat_lt, Bool, false, List, length, Option, Some, None}
use Rattle.daq_io.specs.Seen.{KeepsNumbers, Seen, Stored, Touches, stored_closed}
use Rattle.daq_io.specs.Told.{FilesTold}
use Rattle.daq_mem.specs.Plans.{FilePlan}

-- All that a caller sees: what any files tell, the calls that fail, room for how many bytes a file has, how many files more there is
-- room for, and how many numbers are free.
pub record FilesSeen : Type 0 where
  pub told : FilesTold
  pub plan : FilePlan
  pub room : ℕ
  pub free_files : ℕ
  pub free_numbers : ℕ

-- The counts and the first fault stay.
pub record SameCounts (old new : FilesSeen) : Type 0 where
  pub faults : new.told.faults ≡ old.told.faults
  pub clashes : new.told.clashes ≡ old.told.clashes
  pub first : new.told.first ≡ old.told.first
  pub bytes_read : new.told.bytes_read ≡ old.told.bytes_read

-- A closed file of this name is there, with these bytes, as one that was there before: the object did not make it.
pub record Adds (old new : Seen) (name : List ℕ) (bytes : List ℕ) : Type 0 where
  pub touches : Touches old new name
  pub numbers : KeepsNumbers old new
  pub done : new.done ≡ old.done
  pub fresh : old.at name ≡ None
  pub holds : new.at name ≡ Some (stored_closed bytes)

-- Room for so many files, and so many numbers, were taken.
pub record TakesRoom (old new : FilesSeen) (files numbers : ℕ) : Type 0 where
  pub files_taken : new.free_files + files ≡ old.free_files
  pub numbers_taken : new.free_numbers + numbers ≡ old.free_numbers
  pub room : new.room ≡ old.room

-- Room for so many files, and so many numbers, were given back.
pub record GivesRoom (old new : FilesSeen) (files numbers : ℕ) : Type 0 where
  pub files_given : new.free_files ≡ old.free_files + files
  pub numbers_given : new.free_numbers ≡ old.free_numbers + numbers
  pub room : new.room ≡ old.room

-- there is room for one file more of so many bytes
pub record FitsIn (files : FilesSeen) (bytes : ℕ) : Type 0 where
  pub file : 0 < files.free_files
  pub room : bytes ≤ files.room

-- whether there is no room for a file more, or no number
abbrev pub is_full : FilesSeen → Bool
is_full files = (files.free_files == 0) || (files.free_numbers == 0)

-- whether a file, if it is there, has no room for so many bytes more
abbrev pub is_behind_room : (room : ℕ) → Option Stored → ℕ → Bool
is_behind_room room None count = false
is_behind_room room (Some file) count = nat_lt room (length file.bytes + count)

-- whether the file of a number has no room for so many bytes more
abbrev pub is_too_long : FilesSeen → ℕ → ℕ → Bool
is_too_long files number count = is_behind_room files.room (files.told.seen.at (files.told.seen.name_of number)) count
