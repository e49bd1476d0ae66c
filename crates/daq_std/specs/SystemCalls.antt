-- What the system did with files.
use Rattle.std.specs.Prelude.{◌≡◌, ◌↔◌, ℕ, List, ◌++◌, take, Option, Result, Ok, Err, true}
use Rattle.std.specs.Fs.{new_options, with_create_new, with_read, with_write}
use Rattle.std.specs.declared.fs.OpenOptions.{OpenOptions}
use Rattle.std.specs.declared.io.ErrorKind.{ErrorKind}
use Rattle.std.specs.Io.KnownBytes.{Appends}
use Rattle.std.specs.declared.io.ErrorKind.TheVariants.{AlreadyExists, NotFound, Interrupted as interrupted_kind}
use Rattle.daq_io.specs.Seen.{Stored, stored_as}
use Rattle.daq_io.specs.declared.folder.FileState.{FileState}
use Rattle.daq_std.specs.declared.system.Fault.{Fault}
use Rattle.daq_std.specs.declared.system.Reason.{Reason}
use Rattle.daq_std.specs.declared.system.Reason.TheVariants.{Absent, Interrupted, Taken}

-- what a fault says of the call, and of the name that it was on
abbrev pub reason_of : Fault → Reason
reason_of fault = fault.reason

-- A fault tells that the name is taken just where the system's error is of that kind, and so that it is absent, and that a signal
-- interrupted the call.
pub record TellsKind (kind : ErrorKind) (fault : Fault) : Type 0 where
  pub taken : (reason_of fault ≡ Taken) ↔ (kind ≡ AlreadyExists)
  pub absent : (reason_of fault ≡ Absent) ↔ (kind ≡ NotFound)
  pub interrupted : (reason_of fault ≡ Interrupted) ↔ (kind ≡ interrupted_kind)

-- how a file is made: only where there is nothing of that name, to be read and written
abbrev pub new_to_write : OpenOptions
new_to_write = with_create_new (with_write (with_read new_options true) true) true

-- how a file that is there is opened to be read
abbrev pub to_read : OpenOptions
to_read = with_read new_options true

-- The system opened a file so, under this path.
pub record Opening : Type 0 where
  pub how : OpenOptions
  pub path : List ℕ

-- a file of the system, how it was opened, and the bytes that the system took by its writes, in order
pub record OpenedFile (F : Type 0) : Type 0 where
  pub file : F
  pub opening : Opening
  pub handed : List ℕ

-- a file that is written no more: how it was opened, and how it was left, with the bytes that the system took
pub record OpenedThenLeft : Type 0 where
  pub opening : Opening
  pub left : Stored

-- what a file is, once it was left so
abbrev pub left_so : {F : Type 0} → FileState → OpenedFile F → OpenedThenLeft
left_so state opened = record { opening = opened.opening; left = stored_as state opened.handed }

-- A write took the first bytes, so many, and a failure none.
abbrev pub TookWrite : {E : Type 0} → (old new : List ℕ) → Result ℕ E → (bytes : List ℕ) → Type 0
TookWrite old new (Ok count) bytes = new ≡ old ++ take count bytes
TookWrite old new (Err why) bytes = new ≡ old

-- The first bytes, of whatever number, were taken and written.
pub record TookPart (told_old told_new : Option (List ℕ)) (old new : List ℕ) (bytes : List ℕ) : Type 0 where
  pub count : ℕ
  pub told : Appends told_old told_new (take count bytes)
  pub taken : new ≡ old ++ take count bytes

-- The system put a folder on the disk, and before that a file: the paths of both.
pub record KeptName : Type 0 where
  pub folder : List ℕ
  pub file : List ℕ
