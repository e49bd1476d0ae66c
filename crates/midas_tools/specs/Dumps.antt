-- What `dump` prints of a file.
use Rattle.std.specs.Prelude.{◌≡◌, ◌≢◌, ◌≤◌, ◌^◌, ℕ, false, Bool, ◌⊎◌, List, [], ◌++◌, length, take, Option, Some, None, Result, Ok, Err, codes, IsTrue, IfSome, if◌then◌else◌, ⊤}
use Rattle.std.specs.Io.KnownBytes.{Appends, Keeps}
use Rattle.daq_types.specs.Names.{is_compressed}
use Rattle.daq_types.specs.declared.events.Event.{Event}
use Rattle.daq_io.specs.Counts.{Rose, RoseBy, RoseJustBy}
use Rattle.daq_io.specs.Seen.{Seen}
use Rattle.daq_io.specs.Streams.{AppendsPart}
use Rattle.daq_io.specs.declared.faults.Failed.{Failed}
use Rattle.event.specs.declared.head.Header.{Header}
use Rattle.mid_format.specs.Parts.{CountedBy}
use Rattle.mid_format.specs.Faults.{OfSource}
use Rattle.mid_format.specs.HasRead.{IsReadSoFar, IsFaultAt, LacksNext, HasRead}
use Rattle.mid_format.specs.declared.faults.MidFault.{MidFault}
use Rattle.mid_format.specs.declared.faults.MidFault.TheVariants.{Truncated, NoBegin, NoEnd, AfterEnd, TooBig, ReadFault, BadRecord, TooLong}
use Rattle.mid_format.specs.declared.progress.Progress.{Progress}
use Rattle.midas_tools.specs.Texts.{record_line, bad_line}
use Rattle.midas_tools.specs.Areas.{AreLinesOf}
use Rattle.midas_tools.specs.Printing.{PrintsSoFar}
use Rattle.midas_tools.specs.Findings.{Finds, IsThere, WritesAll, WritesPart}
use Rattle.midas_tools.specs.declared.halts.Halt.{Halt}
use Rattle.midas_tools.specs.declared.halts.Halt.TheVariants.{Bad, SinkFailed}
use Rattle.midas_tools.specs.declared.ends.InputFault.TheVariants.{Mid, Compressed, Missing, ScriptTooLong, OtherRun}
use Rattle.midas_tools.specs.declared.ends.ToolEnd.{ToolEnd}
use Rattle.midas_tools.specs.declared.ends.ToolEnd.TheVariants.{Done, Input, FileFault, SinkFault, NoMemory}

-- the line of the begin record, and that of the end record, where they were read
abbrev pub begin_lines : Option Header → List ℕ
begin_lines None = []
begin_lines (Some begin) = record_line (codes "begin") begin

abbrev pub end_lines : Option Header → List ℕ
end_lines None = []
end_lines (Some end) = record_line (codes "end") end

-- the line of a fault; none of a fault of the source
abbrev pub fault_lines : Option MidFault → List ℕ
fault_lines None = []
fault_lines (Some (Truncated at)) = bad_line (Mid (Truncated at))
fault_lines (Some (NoBegin at)) = bad_line (Mid (NoBegin at))
fault_lines (Some (NoEnd at)) = bad_line (Mid (NoEnd at))
fault_lines (Some (AfterEnd at)) = bad_line (Mid (AfterEnd at))
fault_lines (Some (TooBig at size)) = bad_line (Mid (TooBig at size))
fault_lines (Some ReadFault) = []
fault_lines (Some (BadRecord at)) = bad_line (Mid (BadRecord at))
fault_lines (Some (TooLong at)) = bad_line (Mid (TooLong at))

-- Behind the records and events that were read is the end of the file, or a fault.
abbrev pub EndsAt : Option MidFault → (last begin : Option Header) (at : ℕ) → List ℕ → Type 0
EndsAt (Some fault) last begin at rest = IsFaultAt last begin at rest fault
EndsAt None None begin at rest = ⊥
EndsAt None (Some end) begin at rest = rest ≡ []

-- The bytes begin with these records and events, whose lines the text is: the begin record's, each event's with its
-- banks, the end record's.
pub record ListsFront (bytes : List ℕ) (begin last : Option Header) (rest text : List ℕ) : Type 0 where
  pub front : List ℕ
  pub bytes_are : bytes ≡ front ++ rest
  pub events : List Event
  pub is_done : IsReadSoFar front begin last events
  pub lines : List ℕ
  pub lines_are : AreLinesOf events lines
  pub text_is : text ≡ (begin_lines begin ++ lines) ++ end_lines last

-- The text is the lines of some records and events at the front of the bytes.
pub record IsPart (bytes text : List ℕ) : Type 0 where
  pub begin : Option Header
  pub last : Option Header
  pub rest : List ℕ
  pub lists : ListsFront bytes begin last rest text

-- The text is the lines of all the records and events in front of the end of the bytes, or of a fault, and then the line
-- of the fault.
pub record IsDump (bytes : List ℕ) (fault : Option MidFault) (text : List ℕ) : Type 0 where
  pub begin : Option Header
  pub last : Option Header
  pub rest : List ℕ
  pub shown : List ℕ
  pub lists : ListsFront bytes begin last rest shown
  pub counted : length lists.front ≤ 2 ^ 62
  pub ends : EndsAt fault last begin (length lists.front) rest
  pub text_is : text ≡ shown ++ fault_lines fault

-- The text is the lines of all the records and events that lie whole in these bytes.
pub record ListsWhole (bytes text : List ℕ) : Type 0 where
  pub begin : Option Header
  pub last : Option Header
  pub rest : List ℕ
  pub lists : ListsFront bytes begin last rest text
  pub lacks : LacksNext last rest

-- The text is the lines of all that lies whole in the bytes of the file that were read: so many, from its front, by the
-- count of what the files gave.
pub record ListsRead (seen : Seen) (name : List ℕ) (read_old read_new : ℕ) (text : List ℕ) : Type 0 where
  pub count : ℕ
  pub counted : RoseJustBy count read_old read_new
  pub there : IsThere seen name (λ bytes. ListsWhole (take count bytes) text)

-- The lines of some records and events of the file were written, or a part of them.
pub record WritesSome (seen : Seen) (name : List ℕ) (told_old told_new : Option (List ℕ)) : Type 0 where
  pub text : List ℕ
  pub lists : IsTrue seen.names → IsThere seen name (λ bytes. IsPart bytes text)
  pub written : AppendsPart told_old told_new text

-- The lines of all that was read of the file were written.
pub record WritesRead (seen : Seen) (name : List ℕ) (read_old read_new : ℕ) (told_old told_new : Option (List ℕ)) : Type 0 where
  pub text : List ℕ
  pub lists : IsTrue seen.names → ListsRead seen name read_old read_new text
  pub written : Appends told_old told_new text

-- All of the text of what was found was written.
abbrev pub WritesFound : (seen : Seen) (name : List ℕ) (told_old told_new : Option (List ℕ)) → Type 0
WritesFound seen name told_old told_new = (found : ToolEnd) × WritesAll (Finds IsDump seen name) told_old told_new found

-- What `dump` writes, which prints as it reads: its text. Where a call on the files fails, the lines of all that was read
-- of the file before it, or all of its text; where the sink fails a part of the text, or of the lines of what was read; where
-- memory is wanting nothing, and nothing was read.
abbrev pub WritesOn : (seen : Seen) (name : List ℕ) (read_old read_new : ℕ) (told_old told_new : Option (List ℕ)) → ToolEnd → Type 0
WritesOn seen name read_old read_new told_old told_new Done = WritesAll (Finds IsDump seen name) told_old told_new Done
WritesOn seen name read_old read_new told_old told_new (Input fault) = WritesAll (Finds IsDump seen name) told_old told_new (Input fault)
WritesOn seen name read_old read_new told_old told_new FileFault =
    (is_compressed name ≡ false) × (WritesRead seen name read_old read_new told_old told_new ⊎ WritesFound seen name told_old told_new)
WritesOn seen name read_old read_new told_old told_new SinkFault = WritesPart (Finds IsDump seen name) told_old told_new ⊎ ((is_compressed name ≡ false) × WritesSome seen name told_old told_new)
WritesOn seen name read_old read_new told_old told_new NoMemory = (is_compressed name ≡ false) × Keeps told_old told_new × (read_new ≡ read_old)

-- The text so far: the lines of the begin record and of the events that were read.
pub record Listing (first now : Option (List ℕ)) (progress : Progress) (text : List ℕ) : Type 0 where
  pub events : List Event
  pub read : HasRead 0 first now progress events
  pub lines : List ℕ
  pub lines_are : AreLinesOf events lines
  pub text_is : text ≡ begin_lines progress.begin ++ lines

-- the line of the begin record, where it was read just now
abbrev pub new_begin : (begun : Bool) → Option Header → List ℕ
new_begin begun begin = if begun then [] else begin_lines begin

-- The text so far was printed, and the file goes on.
pub record Printing (first now : Option (List ℕ)) (progress : Progress) (told_first told_now : Option (List ℕ)) (page : List ℕ) : Type 0 where
  pub text : List ℕ
  pub listing : Listing first now progress text
  pub prints : PrintsSoFar told_first told_now page text
  pub sound : progress.fault ≡ None
  pub going : progress.last ≡ None

-- The text so far was printed, and the file has come to its end or to a fault.
pub record PrintsUpTo (first now : Option (List ℕ)) (progress : Progress) (told_first told_now : Option (List ℕ)) (page : List ℕ) (fault : Option MidFault) : Type 0 where
  pub text : List ℕ
  pub listing : Listing first now progress text
  pub prints : PrintsSoFar told_first told_now page text
  pub fault_is : progress.fault ≡ fault

-- The source failed behind these records and events, whose lines were all printed.
pub record PrintsRead (first now told_first told_now : Option (List ℕ)) : Type 0 where
  pub progress : Progress
  pub text : List ℕ
  pub listing : Listing first now progress text
  pub failed : progress.fault ≡ Some ReadFault
  pub written : Appends told_first told_now (text ++ end_lines progress.last)

-- Some of the lines were printed.
pub record PrintsSome (first told_first told_now : Option (List ℕ)) : Type 0 where
  pub text : List ℕ
  pub part : IfSome first (λ bytes. IsPart bytes text)
  pub written : AppendsPart told_first told_now text

-- A part of the whole text was printed.
pub record PrintsDump (first told_first told_now : Option (List ℕ)) : Type 0 where
  pub text : List ℕ
  pub fault : Option MidFault
  pub sound : fault ≢ Some ReadFault
  pub dump : IfSome first (λ bytes. IsDump bytes fault text)
  pub written : AppendsPart told_first told_now text

-- What was printed of the events, by whether they were all printed.
abbrev pub ListsTo : (first now : Option (List ℕ)) (progress : Progress) (told_first told_now : Option (List ℕ)) (page : List ℕ) → Result (Unit {0}) Halt → Type 0
ListsTo first now progress told_first told_now page (Ok done) = PrintsUpTo first now progress told_first told_now page None × ((end : Header) × (progress.last ≡ Some end))
ListsTo first now progress told_first told_now page (Err (Bad fault)) = PrintsUpTo first now progress told_first told_now page (Some fault)
ListsTo first now progress told_first told_now page (Err SinkFailed) = PrintsSome first told_first told_now

-- What was printed where more of the events were, by whether they all were.
abbrev pub PrintsOn : (first now : Option (List ℕ)) (progress : Progress) (told_first told_now : Option (List ℕ)) (page : List ℕ) → Result (Unit {0}) Failed → Type 0
PrintsOn first now progress told_first told_now page (Ok done) = Printing first now progress told_first told_now page
PrintsOn first now progress told_first told_now page (Err failed) = PrintsSome first told_first told_now

-- the source's count of faults by that, what lies at hand of it, and the sink's count
abbrev pub SourceHalts : Result (Unit {0}) Halt → (old new : ℕ) → Type 0
SourceHalts (Ok done) old new = new ≡ old
SourceHalts (Err (Bad fault)) old new = CountedBy fault old new
SourceHalts (Err SinkFailed) old new = RoseBy 0 old new

abbrev pub HandHalts : Result (Unit {0}) Halt → (at_hand : List ℕ) → Type 0
HandHalts (Ok done) at_hand = ⊤
HandHalts (Err (Bad fault)) at_hand = OfSource fault (at_hand ≡ [])
HandHalts (Err SinkFailed) at_hand = ⊤

abbrev pub SinkHalts : Result (Unit {0}) Halt → (old new : ℕ) → Type 0
SinkHalts (Ok done) old new = new ≡ old
SinkHalts (Err (Bad fault)) old new = new ≡ old
SinkHalts (Err SinkFailed) old new = Rose old new

-- the source's count of faults by the end
abbrev pub ReadCounts : ToolEnd → (old new : ℕ) → Type 0
ReadCounts Done old new = new ≡ old
ReadCounts (Input fault) old new = new ≡ old
ReadCounts FileFault old new = Rose old new
ReadCounts SinkFault old new = RoseBy 0 old new
ReadCounts NoMemory old new = ⊥

-- the text with the lines of the end record and of the fault
abbrev pub ended_text : List ℕ → Option Header → Option MidFault → List ℕ
ended_text text last fault = (text ++ end_lines last) ++ fault_lines fault

-- the end of a call that read a file to its end, or to a fault
abbrev pub tool_end : Option MidFault → ToolEnd
tool_end None = Done
tool_end (Some (Truncated at)) = Input (Mid (Truncated at))
tool_end (Some (NoBegin at)) = Input (Mid (NoBegin at))
tool_end (Some (NoEnd at)) = Input (Mid (NoEnd at))
tool_end (Some (AfterEnd at)) = Input (Mid (AfterEnd at))
tool_end (Some (TooBig at size)) = Input (Mid (TooBig at size))
tool_end (Some ReadFault) = FileFault
tool_end (Some (BadRecord at)) = Input (Mid (BadRecord at))
tool_end (Some (TooLong at)) = Input (Mid (TooLong at))

-- All of this text was written, and this is the end; or the sink failed at a part of it.
abbrev pub EndsText : (fault : Option MidFault) (now new : Option (List ℕ)) (text : List ℕ) → ToolEnd → Type 0
EndsText fault now new text end = ((end ≡ tool_end fault) × Appends now new text) ⊎ ((end ≡ SinkFault) × AppendsPart now new text)

-- What was printed of a source, by the end that it leads to: where the source failed, all that was read in front of it.
abbrev pub DumpsTo : (source now : Option (List ℕ)) (told_old told_new : Option (List ℕ)) → ToolEnd → Type 0
DumpsTo source now told_old told_new Done = (text : List ℕ) × IfSome source (λ bytes. IsDump bytes None text) × Appends told_old told_new text
DumpsTo source now told_old told_new (Input (Mid fault)) = (text : List ℕ) × (fault ≢ ReadFault) × IfSome source (λ bytes. IsDump bytes (Some fault) text) × Appends told_old told_new text
DumpsTo source now told_old told_new (Input Compressed) = ⊥
DumpsTo source now told_old told_new (Input Missing) = ⊥
DumpsTo source now told_old told_new (Input ScriptTooLong) = ⊥
DumpsTo source now told_old told_new (Input (OtherRun file run)) = ⊥
DumpsTo source now told_old told_new FileFault = PrintsRead source now told_old told_new
DumpsTo source now told_old told_new SinkFault = PrintsSome source told_old told_new ⊎ PrintsDump source told_old told_new
DumpsTo source now told_old told_new NoMemory = ⊥

-- nothing lies at hand where the source failed
abbrev pub HandEnds : ToolEnd → (at_hand : List ℕ) → Type 0
HandEnds Done at_hand = ⊤
HandEnds (Input fault) at_hand = ⊤
HandEnds FileFault at_hand = at_hand ≡ []
HandEnds SinkFault at_hand = ⊤
HandEnds NoMemory at_hand = ⊤
