-- What a tool finds under the names of several files that it reads in order as those of one run, and what it writes of them.
use Rattle.std.specs.Prelude.{◌≡◌, ◌≢◌, ◌<◌, ℕ, false, nat_lt, List, [], ◌∷◌, ◌++◌, length, All, Option, IsTrue, IsSome, IsNone, ⊤}
use Rattle.std.specs.Io.KnownBytes.{Keeps}
use Rattle.daq_types.specs.Names.{is_compressed}
use Rattle.daq_types.specs.declared.events.Event.{Event}
use Rattle.daq_io.specs.Seen.{Seen}
use Rattle.mid_format.specs.declared.faults.MidFault.TheVariants.{ReadFault}
use Rattle.midas_tools.specs.Texts.{bad_file_line}
use Rattle.midas_tools.specs.Pieces.{AreOneRun, IsPieceFault, total_bytes}
use Rattle.midas_tools.specs.Findings.{IsThere, WritesAll, WritesPart, ClashCounts, SinkByEnd, FilesByEnd, ComesTo, CallCounts}
use Rattle.midas_tools.specs.declared.ends.InputFault.{InputFault}
use Rattle.midas_tools.specs.declared.ends.InputFault.TheVariants.{Mid, Compressed, Missing, ScriptTooLong, OtherRun}
use Rattle.midas_tools.specs.declared.ends.ToolEnd.{ToolEnd}
use Rattle.midas_tools.specs.declared.ends.ToolEnd.TheVariants.{Done, Input, FileFault, SinkFault, NoMemory}

-- none of the names is that of a compressed file
abbrev pub ArePlain : (names : List (List ℕ)) → Type 0
ArePlain = All (λ name. is_compressed name ≡ false)

-- The files of these names are there, and these are their bytes.
abbrev pub HaveBytes : Seen → (names files : List (List ℕ)) → Type 0
HaveBytes seen [] [] = ⊤
HaveBytes seen [] (bytes ∷ files) = ⊥
HaveBytes seen (name ∷ names) [] = ⊥
HaveBytes seen (name ∷ names) (bytes ∷ files) = IsThere seen name (λ found. found ≡ bytes) × HaveBytes seen names files

-- The files of these names are there, and are the pieces of one run.
pub record HaveOneRun (seen : Seen) (names : List (List ℕ)) : Type 0 where
  pub files : List (List ℕ)
  pub have : HaveBytes seen names files
  pub run : ℕ
  pub events : List Event
  pub are : AreOneRun files run events

-- And this is the text of that run: of its number, of all events, and of how many bytes the files have together.
pub record TellsRun (Text : (run : ℕ) (events : List Event) (size : ℕ) → List ℕ) (seen : Seen) (names : List (List ℕ)) (text : List ℕ) : Type 0 where
  pub holds : HaveOneRun seen names
  pub text_is : text ≡ Text holds.run holds.events (total_bytes holds.files)

-- The file of this name has this fault, behind those of other names, which are the pieces of one run.
pub record HoldsFault (seen : Seen) (before : List (List ℕ)) (name : List ℕ) (fault : InputFault) : Type 0 where
  pub holds : HaveOneRun seen before
  pub there : IsThere seen name (λ bytes. IsPieceFault holds.run (total_bytes holds.files) bytes fault)

-- What is wrong with the file of this name, of which those before are the pieces of one run: its own bytes, its name, that
-- there is none, or that it is of another run than they.
abbrev pub IsWrong : Seen → (before : List (List ℕ)) (name : List ℕ) → InputFault → Type 0
IsWrong seen before name (Mid fault) = (is_compressed name ≡ false) × (fault ≢ ReadFault) × (IsTrue seen.names → HoldsFault seen before name (Mid fault))
IsWrong seen before name Compressed = IsTrue (is_compressed name) × (IsTrue seen.names → HaveOneRun seen before)
IsWrong seen before name Missing = (is_compressed name ≡ false) × (IsTrue seen.names → HaveOneRun seen before × IsNone (seen.at name))
IsWrong seen before name ScriptTooLong = ⊥
IsWrong seen before name (OtherRun file run) = (is_compressed name ≡ false) × (0 < length before) × (file ≡ length before) × (IsTrue seen.names → HoldsFault seen before name (OtherRun file run))

-- The first of these names whose file is wrong is this one, and the text says what is wrong and, of several, with which.
pub record FindsWrong (seen : Seen) (names : List (List ℕ)) (fault : InputFault) (text : List ℕ) : Type 0 where
  pub before : List (List ℕ)
  pub name : List ℕ
  pub behind : List (List ℕ)
  pub names_are : names ≡ before ++ name ∷ behind
  pub plain : ArePlain before
  pub wrong : IsWrong seen before name fault
  pub text_is : text ≡ bad_file_line (nat_lt 1 (length names)) name fault

-- This is what is wrong with the first of these names whose file is wrong, of files that are told.
pub record IsFirstWrong (seen : Seen) (names : List (List ℕ)) (fault : InputFault) : Type 0 where
  pub tells : IsTrue seen.names
  pub text : List ℕ
  pub wrong : FindsWrong seen names fault text

-- what a tool finds under these names, and its text
abbrev pub FindsTogether : (Text : (run : ℕ) (events : List Event) (size : ℕ) → List ℕ) (seen : Seen) (names : List (List ℕ)) (text : List ℕ) → ToolEnd → Type 0
FindsTogether Text seen names text Done = ArePlain names × (IsTrue seen.names → TellsRun Text seen names text)
FindsTogether Text seen names text (Input fault) = FindsWrong seen names fault text
FindsTogether Text seen names text FileFault = ⊥
FindsTogether Text seen names text SinkFault = ⊥
FindsTogether Text seen names text NoMemory = ⊥

-- a fact of the first of some names
abbrev pub OfFirst : (names : List (List ℕ)) → (Fact : List ℕ → Type 0) → Type 0
OfFirst [] Fact = ⊥
OfFirst (name ∷ names) Fact = Fact name

-- What a tool writes that prints when it has read all the files of these names: its text, a part of it where the sink fails,
-- and nothing where a call on the files fails or there is no memory, which is so only where the first of them is there.
abbrev pub WritesTogether : (Text : (run : ℕ) (events : List Event) (size : ℕ) → List ℕ) (seen : Seen) (names : List (List ℕ)) (told_old told_new : Option (List ℕ)) → ToolEnd → Type 0
WritesTogether Text seen names told_old told_new Done = WritesAll (FindsTogether Text seen names) told_old told_new Done
WritesTogether Text seen names told_old told_new (Input fault) = WritesAll (FindsTogether Text seen names) told_old told_new (Input fault)
WritesTogether Text seen names told_old told_new FileFault = OfFirst names (λ name. is_compressed name ≡ false) × Keeps told_old told_new
WritesTogether Text seen names told_old told_new SinkFault = WritesPart (FindsTogether Text seen names) told_old told_new
WritesTogether Text seen names told_old told_new NoMemory =
    OfFirst names (λ name. (is_compressed name ≡ false) × (IsTrue seen.names → IsSome (seen.at name))) × Keeps told_old told_new

-- The files of these names are there and are the pieces of one run, and no name is compressed.
pub record AreSoundTogether (seen : Seen) (names : List (List ℕ)) : Type 0 where
  pub plain : ArePlain names
  pub tells : IsTrue seen.names
  pub holds : HaveOneRun seen names

-- The end of a tool that reads the files of these names comes by its cause: a fault of the sink or of the files exactly where its
-- count rose and no earlier cause holds. Where no call failed and there was memory it is `Done` of the pieces of one run, and of
-- others what is first wrong. And where the one file is missing a clash was counted.
pub record EndsBy (end : ToolEnd) (seen : Seen) (names : List (List ℕ)) (counts : CallCounts) : Type 0 where
  pub sink : SinkByEnd end counts.sink_old counts.sink_new
  pub files : FilesByEnd end counts.files_old counts.files_new
  pub completes : ComesTo (AreSoundTogether seen names) Done counts.sink_old counts.sink_new counts.files_old counts.files_new end
  pub faulty : (fault : InputFault) → ComesTo (IsFirstWrong seen names fault) (Input fault) counts.sink_old counts.sink_new counts.files_old counts.files_new end
  pub clashes : length names ≡ 1 → ClashCounts end counts.clashes_old counts.clashes_new
