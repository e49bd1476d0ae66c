-- What is done to a run's file at its two ends.
use Rattle.std.specs.Prelude.{◌≡◌, ◌≢◌, ◌<◌, ◌+◌, ◌-◌, ◌^◌, ◌≤◌, ℕ, min, take, IsTrue, Contains, List, ◌∷◌, [], ◌++◌, length, Option, None, ◌⊎◌}
use Rattle.daq_io.specs.Counts.{RoseBy, first_of}
use Rattle.daq_io.specs.declared.folder.FileState.{FileState}
use Rattle.daq_io.specs.Seen.{FileDone, Seen, Closes, GoesOn, IsFree, KeepsNumbers, KeepsOthers, LeavesFile, Touches, was_removed}

-- The count of faults rose at least twice, as far as it can.
abbrev pub RoseTwice : ℕ → ℕ → Type 0
RoseTwice old new = min (old + 2) (2 ^ 64 - 1) ≤ new

-- the name of the first fault, behind a call on the file of this name that may have failed
abbrev pub NamesMore : (name : List ℕ) → (old new : Option (List ℕ)) → Type 0
NamesMore name old new = (new ≡ old) ⊎ (new ≡ first_of old name)

-- The file of this number grew by the first of these bytes, of whatever number, and was closed, whole or in vain.
pub record ClosesPart (before after : Seen) (number : ℕ) (bytes : List ℕ) : Type 0 where
  pub count : ℕ
  pub state : FileState
  pub leaves : LeavesFile before after number state (take count bytes)

-- The file of this number was closed as it was, whole or in vain.
pub record ClosesAnyhow (before after : Seen) (number : ℕ) : Type 0 where
  pub state : FileState
  pub closes : Closes before after number state []

-- Since then the file of this name was removed, or was found not to be there.
pub record WasTakenAway (old new : Seen) (name : List ℕ) : Type 0 where
  pub since : List FileDone
  pub done : new.done ≡ old.done ++ since
  pub removed : Contains since (was_removed name)

-- The file of this number, which has this name, is no more written. No other file changed, and no other number.
pub record DropsFile (old new : Seen) (number : ℕ) (name : List ℕ) : Type 0 where
  pub touches : Touches old new name
  pub on : GoesOn old new
  pub others : KeepsOthers old new number
  pub free : IsFree new number

-- There is no file of this name, where names are told.
abbrev pub IsGone : Seen → (name : List ℕ) → Type 0
IsGone seen name = IsTrue seen.names → seen.at name ≡ None

-- The file of this name is gone: it was removed, and is not there, where names are told.
pub record IsUndone (old new : Seen) (name : List ℕ) : Type 0 where
  pub gone : IsGone new name
  pub away : WasTakenAway old new name

-- Nothing was made, or what was made is gone.
abbrev pub LeavesNone : (old new : Seen) → (name : List ℕ) → Type 0
LeavesNone old new name = (IsGone new name × (new.done ≡ old.done)) ⊎ IsUndone old new name

-- There was no file of this name; one was made, perhaps, and is no more written. It is gone, unless the count of faults rose so.
pub record UndoesFile (Rises : ℕ → ℕ → Type 0) (old new : Seen) (name : List ℕ) (faults later_faults : ℕ) : Type 0 where
  pub touches : Touches old new name
  pub numbers : KeepsNumbers old new
  pub on : GoesOn old new
  pub fresh : IsGone old name
  pub gone : LeavesNone old new name ⊎ Rises faults later_faults

-- The files of the first of these names, so many, are gone.
abbrev pub AreGone : (old new : Seen) → (names : ℕ → List ℕ) → (many : ℕ) → Type 0
AreGone old new names many = (n : ℕ) → n < many → IsUndone old new (names n)

-- At most the files of the first of these names changed, so many, and no number.
pub record RemovesNames (names : ℕ → List ℕ) (many : ℕ) (old new : Seen) : Type 0 where
  pub told : new.names ≡ old.names
  pub on : GoesOn old new
  pub others : (name : List ℕ) → ((n : ℕ) → n < many → name ≢ names n) → new.at name ≡ old.at name
  pub numbers : KeepsNumbers old new

-- Of the files of the first of these names, so many, no more are left than the count of faults rose by: each that is not gone has one
-- of the numbers of a list, and a fault was counted for each of these.
pub record LeavesForFaults (names : ℕ → List ℕ) (many : ℕ) (before seen : Seen) (old new : ℕ) : Type 0 where
  pub left : List ℕ
  pub each : (n : ℕ) → n < many → IsUndone before seen (names n) ⊎ Contains left n
  pub faults : RoseBy (length left) old new

-- the first fault is that of the file of one of these names, where there was none before
abbrev pub NamesOneOf : (names : ℕ → List ℕ) → (many : ℕ) → (old new : Option (List ℕ)) → Type 0
NamesOneOf names many old new = (n : ℕ) × (n < many) × (new ≡ first_of old (names n))
