-- What was gathered of files that are read in order as those of one run: the events of all, how many bytes they have, and their run.
use Rattle.std.specs.Prelude.{◌≡◌, ◌≢◌, ◌≤◌, ◌<◌, ◌+◌, ◌^◌, ◌⊎◌, ℕ, Bool, false, unwrap_or, List, [], ◌++◌, length, take, get_or, Option, Some, None, IsTrue, IsSome, IsNone, IfSome, ⊤}
use Rattle.daq_types.specs.Names.{is_compressed}
use Rattle.daq_types.specs.declared.events.Event.{Event}
use Rattle.daq_io.specs.Seen.{Seen}
use Rattle.event.specs.Events.{all_encoded}
use Rattle.mid_format.specs.Opened.{run_number_of}
use Rattle.mid_format.specs.declared.faults.MidFault.{MidFault}
use Rattle.mid_format.specs.declared.faults.MidFault.TheVariants.{ReadFault}
use Rattle.mid_format.specs.declared.progress.Progress.{Progress}
use Rattle.midas_tools.specs.Pieces.{ArePieces, IsPiece, IsPieceFault, total_bytes, in_file}
use Rattle.midas_tools.specs.Together.{ArePlain, HaveBytes, IsWrong, OfFirst}
use Rattle.midas_tools.specs.Texts.{bad_file_line}
use Rattle.midas_tools.specs.Findings.{IsThere, Printed, Unprinted}
use Rattle.midas_tools.specs.declared.extents.Extent.{Extent}
use Rattle.midas_tools.specs.declared.opening.Refused.{Refused}
use Rattle.midas_tools.specs.declared.opening.Refused.TheVariants.{NameCompressed, NameMissing, OpenFailed}
use Rattle.midas_tools.specs.declared.ends.InputFault.{InputFault}
use Rattle.midas_tools.specs.declared.ends.InputFault.TheVariants.{Mid, Compressed, Missing, ScriptTooLong, OtherRun}
use Rattle.midas_tools.specs.declared.ends.ToolEnd.{ToolEnd}
use Rattle.midas_tools.specs.declared.ends.ToolEnd.TheVariants.{Done, Input, FileFault, SinkFault, NoMemory}

-- no file was read
abbrev pub no_extent : Extent
no_extent = record { files = 0; run = None; bytes = 0 }

-- with one file more, as far as it was read
abbrev pub extent_behind : Extent → Progress → Extent
extent_behind old progress = record { files = old.files + 1; run = run_number_of progress.begin; bytes = progress.at }

-- A summary has taken some events, which have no more bytes than the files before. A run was met in a file.
pub record HasGathered (HasTaken : List Event → Type 0) (extent : Extent) : Type 0 where
  pub events : List Event
  pub taken : HasTaken events
  pub few : length (all_encoded events) ≤ extent.bytes
  pub within : extent.bytes ≤ 2 ^ 62
  pub met : IsSome extent.run → 0 < extent.files

-- A file is whole, and of the same run as those before it, and its events were taken behind theirs.
pub record TakesPiece (HasTaken : List Event → Type 0) (before : List Event) (old new : Extent) (Told : (List ℕ → Type 0) → Type 0) : Type 0 where
  pub events : List Event
  pub taken : HasTaken (before ++ events)
  pub few : length (all_encoded (before ++ events)) ≤ new.bytes
  pub within : new.bytes ≤ 2 ^ 62
  pub files : new.files ≡ old.files + 1
  pub run : ℕ
  pub run_is : new.run ≡ Some run
  pub same : IfSome old.run (λ other. run ≡ other)
  pub told : Told (λ bytes. IsPiece run bytes events × (new.bytes ≡ old.bytes + length bytes))

-- This is wrong with a file behind those before it.
abbrev pub IsWrongBehind : Extent → (bytes : List ℕ) → InputFault → Type 0
IsWrongBehind old bytes fault = (run : ℕ) × IfSome old.run (λ other. run ≡ other) × IsPieceFault run old.bytes bytes fault

-- What was read of a file, by the end that this leads to. `Told` says that something is true of its bytes, where they are told.
abbrev pub ReadsPiece : (HasTaken : List Event → Type 0) (before : List Event) (old new : Extent) (Told : (List ℕ → Type 0) → Type 0) → ToolEnd → Type 0
ReadsPiece HasTaken before old new Told Done = TakesPiece HasTaken before old new Told
ReadsPiece HasTaken before old new Told (Input (Mid fault)) = (fault ≢ ReadFault) × Told (λ bytes. IsWrongBehind old bytes (Mid fault))
ReadsPiece HasTaken before old new Told (Input Compressed) = ⊥
ReadsPiece HasTaken before old new Told (Input Missing) = ⊥
ReadsPiece HasTaken before old new Told (Input ScriptTooLong) = ⊥
ReadsPiece HasTaken before old new Told (Input (OtherRun file run)) = (0 < old.files) × (file ≡ old.files) × Told (λ bytes. IsWrongBehind old bytes (OtherRun file run))
ReadsPiece HasTaken before old new Told FileFault = ⊤
ReadsPiece HasTaken before old new Told SinkFault = ⊥
ReadsPiece HasTaken before old new Told NoMemory = ⊤

-- what is true of the bytes of this name's file, where they are told
abbrev pub OfName : Seen → (name : List ℕ) → (List ℕ → Type 0) → Type 0
OfName seen name Fact = IsTrue seen.names → IsThere seen name Fact

-- The same of a file by its name.
abbrev pub ReadsName : (HasTaken : List Event → Type 0) (before : List Event) (old new : Extent) (seen : Seen) (name : List ℕ) → ToolEnd → Type 0
ReadsName HasTaken before old new seen name Done = (is_compressed name ≡ false) × TakesPiece HasTaken before old new (OfName seen name)
ReadsName HasTaken before old new seen name (Input (Mid fault)) = (is_compressed name ≡ false) × (fault ≢ ReadFault) × OfName seen name (λ bytes. IsWrongBehind old bytes (Mid fault))
ReadsName HasTaken before old new seen name (Input Compressed) = IsTrue (is_compressed name)
ReadsName HasTaken before old new seen name (Input Missing) = (is_compressed name ≡ false) × (IsTrue seen.names → IsNone (seen.at name))
ReadsName HasTaken before old new seen name (Input ScriptTooLong) = ⊥
ReadsName HasTaken before old new seen name (Input (OtherRun file run)) = (is_compressed name ≡ false) × (0 < old.files) × (file ≡ old.files) × OfName seen name (λ bytes. IsWrongBehind old bytes (OtherRun file run))
ReadsName HasTaken before old new seen name FileFault = is_compressed name ≡ false
ReadsName HasTaken before old new seen name SinkFault = ⊥
ReadsName HasTaken before old new seen name NoMemory = (is_compressed name ≡ false) × (IsTrue seen.names → IsSome (seen.at name))

-- The files of some names are whole and of one run, with these events and so many bytes together.
pub record AreGathered (seen : Seen) (names : List (List ℕ)) (run : ℕ) (events : List Event) (size : ℕ) : Type 0 where
  pub files : List (List ℕ)
  pub have : HaveBytes seen names files
  pub pieces : ArePieces run files events
  pub size_is : size ≡ total_bytes files

-- All the files of these names were gathered.
pub record GathersAll (HasTaken : List Event → Type 0) (seen : Seen) (names : List (List ℕ)) (extent : Extent) : Type 0 where
  pub plain : ArePlain names
  pub gathered : HasGathered HasTaken extent
  pub count : extent.files ≡ length names
  pub run : ℕ
  pub run_is : 0 < length names → extent.run ≡ Some run
  pub told : IsTrue seen.names → AreGathered seen names run gathered.events extent.bytes

-- One of these names, at this place, has a file that is wrong, and those before it are the pieces of one run.
pub record StopsWrong (seen : Seen) (names : List (List ℕ)) (at : ℕ) (fault : InputFault) : Type 0 where
  pub inside : at < length names
  pub plain : ArePlain (take at names)
  pub wrong : IsWrong seen (take at names) (get_or names at []) fault

-- What was gathered of the files of these names, by the end that this leads to, and the place of the name where it stopped.
abbrev pub GathersTo : (HasTaken : List Event → Type 0) (seen : Seen) (names : List (List ℕ)) (extent : Extent) (at : ℕ) → ToolEnd → Type 0
GathersTo HasTaken seen names extent at Done = GathersAll HasTaken seen names extent
GathersTo HasTaken seen names extent at (Input fault) = StopsWrong seen names at fault
GathersTo HasTaken seen names extent at FileFault = OfFirst names (λ name. is_compressed name ≡ false)
GathersTo HasTaken seen names extent at SinkFault = ⊥
GathersTo HasTaken seen names extent at NoMemory = OfFirst names (λ name. (is_compressed name ≡ false) × (IsTrue seen.names → IsSome (seen.at name)))

-- the end where a file was not opened
abbrev pub EndsRefused : Refused → ToolEnd → Type 0
EndsRefused NameCompressed end = end ≡ Input Compressed
EndsRefused NameMissing end = end ≡ Input Missing
EndsRefused OpenFailed end = end ≡ FileFault

-- the run of a file, where it is another than that of the files before
abbrev pub IsOther : (before found : Option ℕ) → Option ℕ → Type 0
IsOther before found None = (a b : ℕ) → before ≡ Some a → found ≡ Some b → b ≡ a
IsOther before found (Some other) = (a : ℕ) × (before ≡ Some a) × (found ≡ Some other) × (other ≢ a)

-- the end at this fault of a file, whose begin record, where it was read, is of this run
abbrev pub EndsAtFault : Extent → (run : Option ℕ) (fault : MidFault) → ToolEnd → Type 0
EndsAtFault before run fault Done = ⊥
EndsAtFault before run fault (Input (Mid found)) = (fault ≢ ReadFault) × IsOther before.run run None × (found ≡ in_file before.bytes fault)
EndsAtFault before run fault (Input Compressed) = ⊥
EndsAtFault before run fault (Input Missing) = ⊥
EndsAtFault before run fault (Input ScriptTooLong) = ⊥
EndsAtFault before run fault (Input (OtherRun file other)) = (fault ≢ ReadFault) × IsOther before.run run (Some other) × (file ≡ before.files)
EndsAtFault before run fault FileFault = fault ≡ ReadFault
EndsAtFault before run fault SinkFault = ⊥
EndsAtFault before run fault NoMemory = ⊥

-- The run was told of with the text of any events that were taken; or there was no memory for it.
abbrev pub TellsEnd : (Text : (run : ℕ) (events : List Event) (size : ℕ) → List ℕ) (HasTaken : List Event → Type 0) (extent : Extent) (told_old told_new : Option (List ℕ)) (sink_old sink_new : ℕ) → ToolEnd → Type 0
TellsEnd Text HasTaken extent told_old told_new sink_old sink_new result =
    ((text : List ℕ) × ((events : List Event) → HasTaken events → text ≡ Text (unwrap_or extent.run 0) events extent.bytes) × Printed text told_old told_new sink_old sink_new Done result)
    ⊎ Unprinted told_old told_new sink_old sink_new NoMemory result

-- what is written where the reading of files led to this end, but for its text where all were read
abbrev pub SaysStop : (several : Bool) (name : List ℕ) (told_old told_new : Option (List ℕ)) (sink_old sink_new : ℕ) (end result : ToolEnd) → Type 0
SaysStop several name told_old told_new sink_old sink_new Done result = Unprinted told_old told_new sink_old sink_new Done result
SaysStop several name told_old told_new sink_old sink_new (Input fault) result = Printed (bad_file_line several name fault) told_old told_new sink_old sink_new (Input fault) result
SaysStop several name told_old told_new sink_old sink_new FileFault result = Unprinted told_old told_new sink_old sink_new FileFault result
SaysStop several name told_old told_new sink_old sink_new SinkFault result = Unprinted told_old told_new sink_old sink_new SinkFault result
SaysStop several name told_old told_new sink_old sink_new NoMemory result = Unprinted told_old told_new sink_old sink_new NoMemory result

-- Where there is no memory to read with, the file of a name is looked for all the same.
abbrev pub LooksFor : Seen → (name : List ℕ) → ToolEnd → Type 0
LooksFor seen name Done = ⊥
LooksFor seen name (Input (Mid fault)) = ⊥
LooksFor seen name (Input Compressed) = IsTrue (is_compressed name)
LooksFor seen name (Input Missing) = (is_compressed name ≡ false) × (IsTrue seen.names → IsNone (seen.at name))
LooksFor seen name (Input ScriptTooLong) = ⊥
LooksFor seen name (Input (OtherRun file run)) = ⊥
LooksFor seen name FileFault = is_compressed name ≡ false
LooksFor seen name SinkFault = ⊥
LooksFor seen name NoMemory = (is_compressed name ≡ false) × (IsTrue seen.names → IsSome (seen.at name))
