-- What a tool finds under a name, what it prints of it, and how it ends.
use Rattle.std.specs.Prelude.{◌≡◌, ◌≢◌, ◌≤◌, ℕ, false, List, [], Option, Some, None, IsTrue, IsSome, IsNone, ◌⊎◌, ⊤}
use Rattle.std.specs.Io.KnownBytes.{Appends, Keeps}
use Rattle.daq_types.specs.Names.{is_compressed}
use Rattle.daq_io.specs.Counts.{Rose, RoseBy}
use Rattle.daq_io.specs.Told.{FilesTold, SinkTold}
use Rattle.daq_io.specs.Seen.{Stored, Seen, Opens}
use Rattle.daq_io.specs.Streams.{AppendsPart}
use Rattle.mid_format.specs.declared.faults.MidFault.{MidFault}
use Rattle.mid_format.specs.declared.faults.MidFault.TheVariants.{ReadFault}
use Rattle.midas_tools.specs.Texts.{bad_line}
use Rattle.midas_tools.specs.declared.opening.Refused.{Refused}
use Rattle.midas_tools.specs.declared.opening.Refused.TheVariants.{NameCompressed, NameMissing, OpenFailed}
use Rattle.midas_tools.specs.declared.ends.InputFault.TheVariants.{Mid, Compressed, Missing, ScriptTooLong, OtherRun}
use Rattle.midas_tools.specs.declared.ends.ToolEnd.{ToolEnd}
use Rattle.midas_tools.specs.declared.ends.ToolEnd.TheVariants.{Done, Input, FileFault, SinkFault, NoMemory}

-- There is a file of this name, and of its bytes this is true.
pub record IsThere (seen : Seen) (name : List ℕ) (Fact : List ℕ → Type 0) : Type 0 where
  pub file : Stored
  pub at_is : seen.at name ≡ Some file
  pub fact : Fact file.bytes

-- Where this is so it leads to this end, unless a call failed or there was no memory.
abbrev pub ComesTo : (Fact : Type 0) (wanted : ToolEnd) (sink_old sink_new files_old files_new : ℕ) → ToolEnd → Type 0
ComesTo Fact wanted sink_old sink_new files_old files_new end =
    Fact → ¬ Rose sink_old sink_new → ¬ Rose files_old files_new → (end ≡ wanted) ⊎ (end ≡ NoMemory)

-- What a tool finds that reads one file, and its text: `Says bytes fault text` says that the tool prints this text of a file of
-- these bytes, which is a run file, or has this fault first. A compressed name is not looked for, and a missing one is not opened.
abbrev pub Finds : (Says : List ℕ → Option MidFault → List ℕ → Type 0) (seen : Seen) (name text : List ℕ) → ToolEnd → Type 0
Finds Says seen name text Done = (is_compressed name ≡ false) × (IsTrue seen.names → IsThere seen name (λ bytes. Says bytes None text))
Finds Says seen name text (Input (Mid fault)) = (is_compressed name ≡ false) × (fault ≢ ReadFault) × (IsTrue seen.names → IsThere seen name (λ bytes. Says bytes (Some fault) text))
Finds Says seen name text (Input Compressed) = IsTrue (is_compressed name) × (text ≡ bad_line Compressed)
Finds Says seen name text (Input Missing) = (is_compressed name ≡ false) × (text ≡ bad_line Missing) × (IsTrue seen.names → IsNone (seen.at name))
Finds Says seen name text (Input ScriptTooLong) = ⊥
Finds Says seen name text (Input (OtherRun file run)) = ⊥
Finds Says seen name text FileFault = ⊥
Finds Says seen name text SinkFault = ⊥
Finds Says seen name text NoMemory = ⊥

-- All of the text of what was found was written.
pub record WritesAll (Found : (text : List ℕ) → ToolEnd → Type 0) (told_old told_new : Option (List ℕ)) (end : ToolEnd) : Type 0 where
  pub text : List ℕ
  pub finds : Found text end
  pub written : Appends told_old told_new text

-- A part of the text of what was found was written.
pub record WritesPart (Found : (text : List ℕ) → ToolEnd → Type 0) (told_old told_new : Option (List ℕ)) : Type 0 where
  pub found : ToolEnd
  pub text : List ℕ
  pub finds : Found text found
  pub written : AppendsPart told_old told_new text

-- the sink's count of faults: it rose exactly where the sink failed
abbrev pub SinkByEnd : ToolEnd → (old new : ℕ) → Type 0
SinkByEnd Done old new = new ≡ old
SinkByEnd (Input fault) old new = new ≡ old
SinkByEnd FileFault old new = new ≡ old
SinkByEnd SinkFault old new = Rose old new
SinkByEnd NoMemory old new = new ≡ old

-- the files' count: it rose exactly where a call on them failed, unless the sink failed or memory was wanting, which are
-- earlier causes: a call that fails before or behind one of these does not turn it, and the count does not fall
abbrev pub FilesByEnd : ToolEnd → (old new : ℕ) → Type 0
FilesByEnd Done old new = new ≡ old
FilesByEnd (Input fault) old new = new ≡ old
FilesByEnd FileFault old new = Rose old new
FilesByEnd SinkFault old new = RoseBy 0 old new
FilesByEnd NoMemory old new = old ≤ new

-- a missing name is counted as a clash
abbrev pub ClashCounts : ToolEnd → (old new : ℕ) → Type 0
ClashCounts Done old new = ⊤
ClashCounts (Input (Mid fault)) old new = ⊤
ClashCounts (Input Compressed) old new = ⊤
ClashCounts (Input Missing) old new = Rose old new
ClashCounts (Input ScriptTooLong) old new = ⊥
ClashCounts (Input (OtherRun file run)) old new = ⊤
ClashCounts FileFault old new = ⊤
ClashCounts SinkFault old new = ⊤
ClashCounts NoMemory old new = ⊤

-- The counts of faults, of clashes and of bytes that were read, before a call and behind it.
pub record CallCounts : Type 0 where
  pub sink_old : ℕ
  pub sink_new : ℕ
  pub files_old : ℕ
  pub files_new : ℕ
  pub clashes_old : ℕ
  pub clashes_new : ℕ
  pub read_old : ℕ
  pub read_new : ℕ

-- the same, of what a sink and files count
abbrev pub call_counts : {O F : Type 0} → (sink : O → SinkTold) → (files : F → FilesTold) → (out_old out_new : O) →
    (files_old files_new : F) → CallCounts
call_counts sink files out_old out_new files_old files_new = record {
  sink_old = (sink out_old).faults;
  sink_new = (sink out_new).faults;
  files_old = (files files_old).faults;
  files_new = (files files_new).faults;
  clashes_old = (files files_old).clashes;
  clashes_new = (files files_new).clashes;
  read_old = (files files_old).bytes_read;
  read_new = (files files_new).bytes_read;
}

-- the source's count of faults by that end
abbrev pub SourceByEnd : ToolEnd → (old new : ℕ) → Type 0
SourceByEnd Done old new = new ≡ old
SourceByEnd (Input fault) old new = new ≡ old
SourceByEnd FileFault old new = Rose old new
SourceByEnd SinkFault old new = new ≡ old
SourceByEnd NoMemory old new = new ≡ old

-- The name is not compressed, and its file was opened.
pub record IsFileOpened (old now : Seen) (name : List ℕ) (number : ℕ) : Type 0 where
  pub plain : is_compressed name ≡ false
  pub opens : Opens old now name number []

-- Why a file was not opened, with the counts of faults and of clashes of the files.
abbrev pub RefusesFile : Seen → (name : List ℕ) (faults_old faults_new clashes_old clashes_new : ℕ) → Refused → Type 0
RefusesFile seen name faults_old faults_new clashes_old clashes_new NameCompressed = IsTrue (is_compressed name) × (faults_new ≡ faults_old)
RefusesFile seen name faults_old faults_new clashes_old clashes_new NameMissing =
    (is_compressed name ≡ false) × (IsTrue seen.names → IsNone (seen.at name)) × (faults_new ≡ faults_old) × Rose clashes_old clashes_new
RefusesFile seen name faults_old faults_new clashes_old clashes_new OpenFailed = (is_compressed name ≡ false) × Rose faults_old faults_new × (IsTrue seen.names → IsSome (seen.at name))

-- A text was printed whole, and this is the end; or the sink failed at a part of it.
abbrev pub Printed : (text : List ℕ) (told_old told_new : Option (List ℕ)) (sink_old sink_new : ℕ) (end result : ToolEnd) → Type 0
Printed text told_old told_new sink_old sink_new end result =
    ((result ≡ end) × Appends told_old told_new text × (sink_new ≡ sink_old)) ⊎ ((result ≡ SinkFault) × AppendsPart told_old told_new text × Rose sink_old sink_new)

-- Nothing was printed, and this is the end.
abbrev pub Unprinted : (told_old told_new : Option (List ℕ)) (sink_old sink_new : ℕ) (end result : ToolEnd) → Type 0
Unprinted told_old told_new sink_old sink_new end result = (result ≡ end) × Keeps told_old told_new × (sink_new ≡ sink_old)

-- What is printed where a file was not opened.
abbrev pub SaysWhy : Refused → (told_old told_new : Option (List ℕ)) (sink_old sink_new : ℕ) → ToolEnd → Type 0
SaysWhy NameCompressed told_old told_new sink_old sink_new result = Printed (bad_line Compressed) told_old told_new sink_old sink_new (Input Compressed) result
SaysWhy NameMissing told_old told_new sink_old sink_new result = Printed (bad_line Missing) told_old told_new sink_old sink_new (Input Missing) result
SaysWhy OpenFailed told_old told_new sink_old sink_new result = Unprinted told_old told_new sink_old sink_new FileFault result

-- A file that was read to this end is closed: the end stays, unless nothing failed before the close and the close did.
abbrev pub ClosesWell : (files_old files_new : ℕ) (end result : ToolEnd) → Type 0
ClosesWell files_old files_new end result = ((result ≡ end) × (files_new ≡ files_old)) ⊎ ((result ≡ FileFault) × Rose files_old files_new)

abbrev pub ClosedAs : (end : ToolEnd) (files_old files_new : ℕ) (result : ToolEnd) → Type 0
ClosedAs Done files_old files_new result = ClosesWell files_old files_new Done result
ClosedAs (Input fault) files_old files_new result = ClosesWell files_old files_new (Input fault) result
ClosedAs FileFault files_old files_new result = (result ≡ FileFault) × (files_old ≤ files_new)
ClosedAs SinkFault files_old files_new result = (result ≡ SinkFault) × (files_old ≤ files_new)
ClosedAs NoMemory files_old files_new result = (result ≡ NoMemory) × (files_old ≤ files_new)
