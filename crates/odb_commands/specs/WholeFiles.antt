-- Files that are read whole, and files that are written whole.
use Rattle.std.specs.Prelude.{◌≡◌, ◌≤◌, ◌<◌, ◌⊎◌, ℕ, IsTrue, IsSome, List, [], length, take, Some, None, Result, Ok, Err}
use Rattle.daq_types.specs.declared.memory.NoMemory.{NoMemory}
use Rattle.daq_io.specs.declared.faults.Failed.{Failed}
use Rattle.daq_io.specs.declared.folder.FileState.{FileState}
use Rattle.daq_io.specs.Seen.{Seen, Stored, Same, LeavesFile, Stores, StoresSo, Reads}
use Rattle.odb_commands.specs.declared.dump_replies.FileReply.{FileReply}
use Rattle.odb_commands.specs.declared.dump_replies.FileReply.TheVariants.{Done, Clash, Fault, TooLong}
use Rattle.odb_commands.specs.declared.dump_replies.FileRead.{FileRead}
use Rattle.odb_commands.specs.declared.dump_replies.FileRead.TheVariants.{Whole, Missing, Fault as read_fault, TooLong as read_too_long}
use Rattle.odb_commands.specs.declared.file_reading.ReadEnd.{ReadEnd}
use Rattle.odb_commands.specs.declared.file_reading.ReadEnd.TheVariants.{Whole as to_end, TooLong as past_limit, NoMemory as without_memory}
use Rattle.odb_commands.specs.declared.file_reading.Body.{Body}
use Rattle.odb_commands.specs.declared.file_reading.Body.TheVariants.{Whole as whole_body, TooLong as long_body, NoMemory as no_body}

-- the most bytes of a file that is read
abbrev pub file_limit : ℕ
file_limit = 268435456

-- A file of this name is there, and has these bytes, which are not too many.
pub record HasText (seen : Seen) (name text : List ℕ) : Type 0 where
  pub there : IsTrue seen.names → (file : Stored) × (seen.at name ≡ Some file) × (file.bytes ≡ text)
  pub fits : length text ≤ file_limit

-- what the files tell of a file that was read: all its bytes; that it is not there; or that it is, and with too many bytes
abbrev pub ReadsFile : Seen → (name : List ℕ) → FileRead → Type 0
ReadsFile seen name (Whole text) = HasText seen name text
ReadsFile seen name Missing = IsTrue seen.names → seen.at name ≡ None
ReadsFile seen name read_fault = IsTrue seen.names → IsSome (seen.at name)
ReadsFile seen name read_too_long = IsTrue seen.names → (file : Stored) × (seen.at name ≡ Some file) × (file_limit < length file.bytes)

-- No file changed, and the name was free; or the file was made and closed, and has a first part of the text.
abbrev pub CutsText : (old new : Seen) (name text : List ℕ) → Type 0
CutsText old new name text = (Same old new × (IsTrue old.names → old.at name ≡ None)) ⊎ ((count : ℕ) × (state : FileState) × StoresSo old new name state (take count text))

-- what became of a file that was to be written with this text: it is there and closed; it was there before, and nothing
-- changed; or it was cut short
abbrev pub WritesFile : (old new : Seen) (name text : List ℕ) → FileReply → Type 0
WritesFile old new name text Done = Stores old new name text
WritesFile old new name text Clash = Same old new × (IsTrue old.names → IsSome (old.at name))
WritesFile old new name text Fault = CutsText old new name text
WritesFile old new name text TooLong = ⊥

-- Under a number.

-- some bytes were read
pub record SomeRead (old new : Seen) (file : ℕ) : Type 0 where
  pub bytes : List ℕ
  pub reads : Reads old new file bytes

-- All bytes that were left were read, and are these.
pub record ReadsWholeText (old new : Seen) (file : ℕ) (text : List ℕ) : Type 0 where
  pub reads : Reads old new file text
  pub end : IsTrue old.names → new.left file ≡ []
  pub fits : length text ≤ file_limit

-- More bytes were read than a file may have.
pub record ReadsTooLong (old new : Seen) (file : ℕ) (text : List ℕ) : Type 0 where
  pub reads : Reads old new file text
  pub long : file_limit < length text

-- what was read where the reading ended so
abbrev pub GaveBytes : (old new : Seen) (file : ℕ) (text : List ℕ) → ReadEnd → Type 0
GaveBytes old new file text to_end = ReadsWholeText old new file text
GaveBytes old new file text past_limit = ReadsTooLong old new file text
GaveBytes old new file text without_memory = SomeRead old new file

-- the same of what is handed on
abbrev pub GivesBody : (old new : Seen) (file : ℕ) → Body → Type 0
GivesBody old new file (whole_body text) = ReadsWholeText old new file text
GivesBody old new file long_body = (text : List ℕ) × ReadsTooLong old new file text
GivesBody old new file no_body = SomeRead old new file

-- what was read, if the file was closed behind it; a close that failed comes before want of memory
abbrev pub closed_body : Body → Result (Unit {0}) Failed → Result FileRead NoMemory
closed_body (whole_body text) (Ok done) = Ok (Whole text)
closed_body (whole_body text) (Err e) = Ok read_fault
closed_body long_body (Ok done) = Ok read_too_long
closed_body long_body (Err e) = Ok read_fault
closed_body no_body (Ok done) = Err (record {})
closed_body no_body (Err e) = Ok read_fault

-- what was left under the number, and was read
abbrev pub GivesRead : Seen → (file : ℕ) → FileRead → Type 0
GivesRead seen file (Whole text) = (IsTrue seen.names → seen.left file ≡ text) × (length text ≤ file_limit)
GivesRead seen file Missing = ⊥
GivesRead seen file read_fault = Unit {0}
GivesRead seen file read_too_long = IsTrue seen.names → file_limit < length (seen.left file)

-- The file of this number has a first part of the text behind what it had, and is closed, whole or in vain.
pub record ClosesFirstPart (old new : Seen) (file : ℕ) (text : List ℕ) : Type 0 where
  pub count : ℕ
  pub state : FileState
  pub leaves : LeavesFile old new file state (take count text)
