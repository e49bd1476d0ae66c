-- What is done to the files of a run at an event: perhaps the next file is begun, and the event is appended.
use Rattle.std.specs.Prelude.{◌≡◌, ◌⊎◌, ◌<◌, ◌+◌, ◌-◌, ◌^◌, ℕ, min, Bool, true, false, not, nat_lt, ◌&&◌, IsTrue, IsSome, List, [], length, Option, if◌then◌else◌}
use Rattle.daq_io.specs.Counts.{Rose, first_of}
use Rattle.daq_io.specs.declared.folder.FileState.TheVariants.{Closed}
use Rattle.daq_io.specs.Seen.{Seen, Same, Creates, Extends, Closes}
use Rattle.sub_files.specs.declared.open_file.Fallen.{Fallen}
use Rattle.sub_files.specs.declared.open_file.OpenFile.{OpenFile}
use Rattle.sub_files.specs.declared.open_file.RunHead.{RunHead}
use Rattle.sub_files.specs.Cuts.{last_number}
use Rattle.sub_files.specs.Pieces.{Series, piece_name, begin_bytes, between, head_bytes}
use Rattle.sub_files.specs.RecordFiles.{ClosesAnyhow, ClosesPart}

-- Whether the next file is begun before so many bytes are written: where the file has an event, and with these its bytes would be
-- above the limit; unless it has the greatest number, or the next name was found taken.
abbrev pub begins_next : (limit head : ℕ) → OpenFile → (size : ℕ) → Bool
begins_next limit head old size =
    nat_lt 0 limit && (nat_lt head old.bytes && (nat_lt limit (old.bytes + size) && (nat_lt old.sub last_number && not old.taken)))

-- the file with so many bytes more; without a limit they are not counted
abbrev pub counted_in : (limit : ℕ) → OpenFile → (size : ℕ) → OpenFile
counted_in limit ready size = record ready { bytes = if nat_lt 0 limit then min (ready.bytes + size) (2 ^ 64 - 1) else ready.bytes }

-- the first file, under this number, which has its begin record
abbrev pub first_file : (dump : List ℕ) → (file : ℕ) → OpenFile
first_file dump file = record { file = file; sub = 0; bytes = head_bytes dump; taken = false }

-- the next file, under this number, which has its begin record
abbrev pub next_file : (dump : List ℕ) → (old : OpenFile) → (file : ℕ) → OpenFile
next_file dump old file = record { file = file; sub = old.sub + 1; bytes = head_bytes dump; taken = false }

-- The next name was found taken, and nothing was done.
pub record FindsNameTaken (next : List ℕ) (old ready : OpenFile) (a b : Seen) : Type 0 where
  pub ready_is : ready ≡ record old { taken = true }
  pub same : Same a b
  pub there : IsTrue a.names → IsSome (a.at next)

-- The old file is ended, and the new one, which was made, gets its begin record.
pub record RollsAt (head : RunHead) (dump : List ℕ) (old ready : OpenFile) (file : ℕ) (made b : Seen) : Type 0 where
  pub ended : Seen
  pub ends : Closes made ended old.file Closed (between head)
  pub begins : Extends ended b file (begin_bytes head dump)
  pub ready_is : ready ≡ next_file dump old file

-- The next file is made and begun, and the old one ended between.
pub record RollsOn (next : List ℕ) (head : RunHead) (dump : List ℕ) (old ready : OpenFile) (a b : Seen) : Type 0 where
  pub file : ℕ
  pub made : Seen
  pub makes : Creates a made next file []
  pub rolls : RollsAt head dump old ready file made b

-- The file is made ready for an event, which begins the next file or not.
abbrev pub MovesOn : (begins : Bool) → (next : List ℕ) → RunHead → (dump : List ℕ) → (old ready : OpenFile) → (a b : Seen) → Type 0
MovesOn false next head dump old ready a b = (ready ≡ old) × (b ≡ a)
MovesOn true next head dump old ready a b = FindsNameTaken next old ready a b ⊎ RollsOn next head dump old ready a b

-- the name of the file behind this one
abbrev pub next_name : Series → OpenFile → List ℕ
next_name s old = piece_name s (old.sub + 1)

-- the file is made ready for so many bytes
abbrev pub MakesReady : Series → (old ready : OpenFile) → (size : ℕ) → (a b : Seen) → Type 0
MakesReady s old ready size a b = MovesOn (begins_next s.limit (head_bytes s.dump) old size) (next_name s old) s.head s.dump old ready a b

-- The event, of which these are the bytes, is written.
pub record WritesNext (s : Series) (old later : OpenFile) (event : List ℕ) (a b : Seen) : Type 0 where
  pub ready : OpenFile
  pub middle : Seen
  pub moves : MakesReady s old ready (length event) a middle
  pub writes : Extends middle b ready.file event
  pub later_is : later ≡ counted_in s.limit ready (length event)

-- The ways in which a call on the files fails. Those that are open are closed then.

abbrev pub fallen_at : (files framed : ℕ) → Fallen
fallen_at files framed = record { files = files; framed = framed }

-- the next file could not be made
pub record MakesNone (old : OpenFile) (fallen : Fallen) (a b : Seen) : Type 0 where
  pub made : Seen
  pub same : Same a made
  pub closes : ClosesAnyhow made b old.file
  pub fallen_is : fallen ≡ fallen_at (old.sub + 1) old.sub

-- the old file could not be ended, or not be closed, behind the making of this one
pub record EndsNone (head : RunHead) (old : OpenFile) (file : ℕ) (fallen : Fallen) (made b : Seen) : Type 0 where
  pub ended : Seen
  pub ends : ClosesPart made ended old.file (between head)
  pub closes : ClosesAnyhow ended b file
  pub fallen_is : fallen ≡ fallen_at (old.sub + 2) old.sub

-- the old file was ended, and the begin record of this one could not be written
pub record BeginsNone (head : RunHead) (dump : List ℕ) (old : OpenFile) (file : ℕ) (fallen : Fallen) (made b : Seen) : Type 0 where
  pub ended : Seen
  pub ends : Closes made ended old.file Closed (between head)
  pub closes : ClosesPart ended b file (begin_bytes head dump)
  pub fallen_is : fallen ≡ fallen_at (old.sub + 2) (old.sub + 1)

-- either of the two
abbrev pub FailsRoll : RunHead → (dump : List ℕ) → (old : OpenFile) → (file : ℕ) → Fallen → (made b : Seen) → Type 0
FailsRoll head dump old file fallen made b = EndsNone head old file fallen made b ⊎ BeginsNone head dump old file fallen made b

-- the next file was made
pub record RollsNone (next : List ℕ) (head : RunHead) (dump : List ℕ) (old : OpenFile) (fallen : Fallen) (a b : Seen) : Type 0 where
  pub file : ℕ
  pub made : Seen
  pub makes : Creates a made next file []
  pub fails : FailsRoll head dump old file fallen made b

abbrev pub FailsMove : (next : List ℕ) → RunHead → (dump : List ℕ) → (old : OpenFile) → Fallen → (a b : Seen) → Type 0
FailsMove next head dump old fallen a b = MakesNone old fallen a b ⊎ RollsNone next head dump old fallen a b

-- the event could not be appended
pub record AppendsNone (ready : OpenFile) (event : List ℕ) (fallen : Fallen) (middle b : Seen) : Type 0 where
  pub closes : ClosesPart middle b ready.file event
  pub fallen_is : fallen ≡ fallen_at (ready.sub + 1) ready.sub

pub record WritesNone (s : Series) (old : OpenFile) (event : List ℕ) (fallen : Fallen) (a b : Seen) : Type 0 where
  pub ready : OpenFile
  pub middle : Seen
  pub moves : MakesReady s old ready (length event) a middle
  pub appends : AppendsNone ready event fallen middle b

-- The event is not written: the next file was to be begun, and that failed, or the append did.
abbrev pub FailsNext : Series → (old : OpenFile) → (event : List ℕ) → Fallen → (a b : Seen) → Type 0
FailsNext s old event fallen a b =
    (IsTrue (begins_next s.limit (head_bytes s.dump) old (length event)) × FailsMove (next_name s old) s.head s.dump old fallen a b)
    ⊎ WritesNone s old event fallen a b

-- The counts of the files.

-- the count of clashes rose exactly where the next name was found taken
abbrev pub ClashesBy : (before after : Bool) → (old new : ℕ) → Type 0
ClashesBy false true old new = Rose old new
ClashesBy before after old new = new ≡ old

-- the count of clashes rises only where there is a limit
abbrev pub RisesWith : (limit old new : ℕ) → Type 0
RisesWith limit old new = (new ≡ old) ⊎ ((0 < limit) × Rose old new)

-- the first fault is that of the file of one of these names, where there was none before
abbrev pub NamesOne : (name next : List ℕ) → (old new : Option (List ℕ)) → Type 0
NamesOne name next old new = (new ≡ first_of old name) ⊎ (new ≡ first_of old next)
