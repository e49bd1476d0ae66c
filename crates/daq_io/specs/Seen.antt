-- What an object with files tells of them, and what each call does to it.
use Rattle.std.specs.Prelude.{◌≡◌, ◌≢◌, ℕ, Bool, true, false, ◌||◌, IsTrue, IsSome, Contains, List, ◌∷◌, [], ◌++◌, take, Option, Some, None, Result, Ok, Err}
use mathlib.Core.List.{IsPrefix}
use Rattle.daq_io.specs.declared.folder.FileState.{FileState}
use Rattle.daq_io.specs.declared.folder.FileState.TheVariants.{Open, Closed, InVain}

-- A file as it is told: its bytes, and whether it is being written, or closed whole or in vain.
pub record Stored : Type 0 where
  pub bytes : List ℕ
  pub state : FileState

-- a file with these bytes that stands so
abbrev pub stored_as : FileState → List ℕ → Stored
stored_as state bytes = record { bytes = bytes; state = state }

-- a file with these bytes that is being written
abbrev pub stored_open : List ℕ → Stored
stored_open bytes = stored_as Open bytes

-- a file with these bytes that is closed whole
abbrev pub stored_closed : List ℕ → Stored
stored_closed bytes = stored_as Closed bytes

-- whether it is written no more
abbrev pub is_state_closed : FileState → Bool
is_state_closed Open = false
is_state_closed Closed = true
is_state_closed InVain = true

-- whether the file is there and written no more
abbrev pub is_closed : Option Stored → Bool
is_closed None = false
is_closed (Some file) = is_state_closed file.state

-- what a close leaves the file as: closed whole where it answered Ok
abbrev pub close_state : {T E : Type 0} → Result T E → FileState
close_state (Ok done) = Closed
close_state (Err why) = InVain

-- One thing that the object did for good: a file that it had made under this name is written no more, and was left so; or, with none
-- left, the file of this name was removed.
pub record FileDone : Type 0 where
  pub name : List ℕ
  pub left : Option Stored

abbrev pub was_left : (name : List ℕ) → Stored → FileDone
was_left name file = record { name = name; left = Some file }

abbrev pub was_removed : (name : List ℕ) → FileDone
was_removed name = record { name = name; left = None }

-- What is told. Always: the numbers in use and their names, the bytes that the object gave to the files which it made, and what it did
-- with them. Where `names` holds: which names there are, and the bytes of all files, also of those that were there before.
pub record Seen : Type 0 where
  -- whether the object tells which names there are, and their bytes
  pub names : Bool
  -- the file of each name
  pub at : List ℕ → Option Stored
  -- the numbers in use for writing
  pub writes : ℕ → Bool
  -- the numbers in use for reading
  pub reads : ℕ → Bool
  -- the name of the file of each number in use
  pub name_of : ℕ → List ℕ
  -- the bytes left of each number in use for reading
  pub left : ℕ → List ℕ
  -- the bytes given to the file of each number in use for writing
  pub given : ℕ → List ℕ
  -- the files that were written to their end or removed, from the first on
  pub done : List FileDone

-- the number is in use
abbrev pub InUse : Seen → ℕ → Type 0
InUse seen number = IsTrue (seen.writes number || seen.reads number)

-- the number is not in use
pub record IsFree (seen : Seen) (number : ℕ) : Type 0 where
  pub writes : seen.writes number ≡ false
  pub reads : seen.reads number ≡ false

-- What is told of one number stays.
pub record KeepsNumber (old new : Seen) (number : ℕ) : Type 0 where
  pub writes : new.writes number ≡ old.writes number
  pub reads : new.reads number ≡ old.reads number
  pub name : InUse old number → new.name_of number ≡ old.name_of number
  pub left : IsTrue (old.reads number) → new.left number ≡ old.left number
  pub given : IsTrue (old.writes number) → new.given number ≡ old.given number

-- What is told of every number stays.
abbrev pub KeepsNumbers : Seen → Seen → Type 0
KeepsNumbers old new = (number : ℕ) → KeepsNumber old new number

-- What is told of every other number stays.
abbrev pub KeepsOthers : Seen → Seen → ℕ → Type 0
KeepsOthers old new number = (other : ℕ) → other ≢ number → KeepsNumber old new other

-- What was done before still stands, and more may have been done.
pub record GoesOn (old new : Seen) : Type 0 where
  pub done : IsPrefix old.done new.done

-- At most the file of this name changed.
pub record Touches (old new : Seen) (name : List ℕ) : Type 0 where
  pub names : new.names ≡ old.names
  pub others : (other : List ℕ) → other ≢ name → new.at other ≡ old.at other

-- No file changed.
pub record KeepsFiles (old new : Seen) : Type 0 where
  pub names : new.names ≡ old.names
  pub at : (name : List ℕ) → new.at name ≡ old.at name
  pub done : new.done ≡ old.done

-- Nothing that is told changed.
pub record Same (old new : Seen) : Type 0 where
  pub files : KeepsFiles old new
  pub numbers : KeepsNumbers old new

-- A file of this name came into being, is being written under this number, and has these bytes.
pub record Creates (old new : Seen) (name : List ℕ) (number : ℕ) (bytes : List ℕ) : Type 0 where
  pub touches : Touches old new name
  pub others : KeepsOthers old new number
  pub was_free : IsFree old number
  pub writes : IsTrue (new.writes number)
  pub reads : new.reads number ≡ false
  pub named : new.name_of number ≡ name
  pub given : new.given number ≡ bytes
  pub done : new.done ≡ old.done
  pub fresh : IsTrue old.names → old.at name ≡ None
  pub holds : IsTrue old.names → new.at name ≡ Some (stored_open bytes)

-- The file of this number, which is being written, grew by these bytes where all are told; nothing else happened but what was given.
pub record Writes (old new : Seen) (number : ℕ) (bytes : List ℕ) : Type 0 where
  pub writes : IsTrue (old.writes number)
  pub touches : Touches old new (old.name_of number)
  pub others : KeepsOthers old new number
  pub still : new.writes number ≡ old.writes number
  pub reads : new.reads number ≡ old.reads number
  pub named : new.name_of number ≡ old.name_of number
  pub left : IsTrue (old.reads number) → new.left number ≡ old.left number
  pub done : new.done ≡ old.done
  pub holds : IsTrue old.names → (so_far : List ℕ) → old.at (old.name_of number) ≡ Some (stored_open so_far) → new.at (old.name_of number) ≡ Some (stored_open (so_far ++ bytes))

-- The file of this number, which is being written, grew by these bytes.
pub record Extends (old new : Seen) (number : ℕ) (bytes : List ℕ) : Type 0 where
  pub wrote : Writes old new number bytes
  pub given : new.given number ≡ old.given number ++ bytes

-- The file of this number grew by the first of these bytes, of whatever number; or it has only a first part of what it has then.
pub record ExtendsPart (old new : Seen) (number : ℕ) (bytes : List ℕ) : Type 0 where
  pub count : ℕ
  pub wrote : Writes old new number (take count bytes)
  pub given : IsPrefix (new.given number) (old.given number ++ take count bytes)

-- The file of this number grew by these bytes where all are told, and was left so; of all that was given, and these, it has a first
-- part. The number is no more in use.
pub record LeavesFile (old new : Seen) (number : ℕ) (state : FileState) (bytes : List ℕ) : Type 0 where
  pub writes : IsTrue (old.writes number)
  pub touches : Touches old new (old.name_of number)
  pub others : KeepsOthers old new number
  pub free : IsFree new number
  pub closed : IsTrue (is_state_closed state)
  pub holds : IsTrue old.names → (so_far : List ℕ) → old.at (old.name_of number) ≡ Some (stored_open so_far) → new.at (old.name_of number) ≡ Some (stored_as state (so_far ++ bytes))
  pub has : List ℕ
  pub part : IsPrefix has (old.given number ++ bytes)
  pub done : new.done ≡ old.done ++ was_left (old.name_of number) (stored_as state has) ∷ []

-- The file of this number grew by these bytes and was closed, whole or in vain, and the number is no more in use. One that is closed
-- whole has all that was given.
pub record Closes (old new : Seen) (number : ℕ) (state : FileState) (bytes : List ℕ) : Type 0 where
  pub leaves : LeavesFile old new number state bytes
  pub whole : state ≡ Closed → leaves.has ≡ old.given number ++ bytes

-- A file of this name came into being and was left so: it has these bytes where all are told, and a first part of them was taken. No
-- number is in use that was not.
pub record StoresSo (old new : Seen) (name : List ℕ) (state : FileState) (bytes : List ℕ) : Type 0 where
  pub touches : Touches old new name
  pub numbers : KeepsNumbers old new
  pub closed : IsTrue (is_state_closed state)
  pub fresh : IsTrue old.names → old.at name ≡ None
  pub holds : IsTrue old.names → new.at name ≡ Some (stored_as state bytes)
  pub has : List ℕ
  pub part : IsPrefix has bytes
  pub done : new.done ≡ old.done ++ was_left name (stored_as state has) ∷ []

-- A file of this name came into being, was written and closed whole, and has these bytes. No number is in use that was not.
pub record Stores (old new : Seen) (name : List ℕ) (bytes : List ℕ) : Type 0 where
  pub so : StoresSo old new name Closed bytes
  pub whole : so.has ≡ bytes

-- There is no file of this name any more, if there was one.
pub record Removes (old new : Seen) (name : List ℕ) : Type 0 where
  pub touches : Touches old new name
  pub numbers : KeepsNumbers old new
  pub done : new.done ≡ old.done ++ was_removed name ∷ []
  pub gone : IsTrue old.names → new.at name ≡ None

-- The file of this name, which is there, is being read under this number, and these bytes of it have been read.
pub record Opens (old new : Seen) (name : List ℕ) (number : ℕ) (bytes : List ℕ) : Type 0 where
  pub files : KeepsFiles old new
  pub others : KeepsOthers old new number
  pub was_free : IsFree old number
  pub writes : new.writes number ≡ false
  pub reads : IsTrue (new.reads number)
  pub named : new.name_of number ≡ name
  pub there : IsTrue old.names → IsSome (old.at name)
  pub holds : IsTrue old.names → (file : Stored) → old.at name ≡ Some file → file.bytes ≡ bytes ++ new.left number

-- These bytes were read under this number.
pub record Reads (old new : Seen) (number : ℕ) (bytes : List ℕ) : Type 0 where
  pub files : KeepsFiles old new
  pub others : KeepsOthers old new number
  pub was_read : IsTrue (old.reads number)
  pub writes : new.writes number ≡ old.writes number
  pub reads : IsTrue (new.reads number)
  pub name : new.name_of number ≡ old.name_of number
  pub consumes : IsTrue old.names → old.left number ≡ bytes ++ new.left number

-- The number is no more in use, and no file changed.
pub record Ends (old new : Seen) (number : ℕ) : Type 0 where
  pub files : KeepsFiles old new
  pub others : KeepsOthers old new number
  pub free : IsFree new number

-- The file of this name is being written under this number, and was given these bytes; it has them, where all are told.
pub record IsWritten (seen : Seen) (number : ℕ) (name : List ℕ) (bytes : List ℕ) : Type 0 where
  pub writes : IsTrue (seen.writes number)
  pub named : seen.name_of number ≡ name
  pub given : seen.given number ≡ bytes
  pub holds : IsTrue seen.names → seen.at name ≡ Some (stored_open bytes)

-- A file of this name was made and closed whole, with these bytes; and it is there, where names are told.
pub record IsStored (seen : Seen) (name : List ℕ) (bytes : List ℕ) : Type 0 where
  pub written : Contains seen.done (was_left name (stored_closed bytes))
  pub holds : IsTrue seen.names → seen.at name ≡ Some (stored_closed bytes)

-- A file of this name was made and is written no more, whole or in vain, with a first part of these bytes; and it is there, where names
-- are told, with one too.
pub record IsPartStored (seen : Seen) (name whole : List ℕ) : Type 0 where
  pub state : FileState
  pub closed : IsTrue (is_state_closed state)
  pub has : List ℕ
  pub part : IsPrefix has whole
  pub written : Contains seen.done (was_left name (stored_as state has))
  pub bytes : List ℕ
  pub front : IsPrefix bytes whole
  pub holds : IsTrue seen.names → seen.at name ≡ Some (stored_as state bytes)
