-- A channel of the logger: its calls on the buffer that it reads, what it got there, and its files.
use Rattle.std.specs.Prelude.{◌≡◌, ◌≤◌, ◌+◌, ℕ, nat_le, Bool, false, true, IsTrue, IsSome, All, Result, Ok, Err, List, [], ◌∷◌, ◌++◌, Option, Some, None, ⊤}
use Rattle.daq_types.specs.declared.events.Event.{Event}
use Rattle.event.specs.RunFile.{IsFileEvent}
use Rattle.daq_io.specs.Seen.{Seen}
use Rattle.buffer_core.specs.declared.entry.BufferEntry.{BufferEntry}
use Rattle.buffer_core.specs.declared.entry.BufferEntry.TheVariants.{Attach, Cancel}
use Rattle.buffer_core.specs.declared.replies.RequestRefusal.{RequestRefusal}
use Rattle.buffer_core.specs.declared.replies.MarkRefusal.{MarkRefusal}
use Rattle.buffer_core.specs.Ports.{Access, GotEvent, Calls, IsGivenAt}
use Rattle.member_model.specs.SentCalls.{EachCall}
use Rattle.member_model.specs.OwnCalls.{calls_after, gave_number, AreOwnCalls, SendsNone, asks, is_place_within}
use Rattle.member_model.specs.ReadRuns.{IsAskingFor, IsReading, IsDraining, HasReadRun}
use Rattle.member_model.specs.CutRuns.{HasReadOn, HasCutRun}
use Rattle.mid_logger.specs.declared.channel_spec.ChannelSpec.{ChannelSpec}
use Rattle.mid_logger.specs.declared.stage.ChannelRun.{ChannelRun}
use Rattle.mid_logger.specs.declared.stage.BegunRun.{BegunRun}
use Rattle.mid_logger.specs.declared.stage.ChannelStage.{ChannelStage}
use Rattle.mid_logger.specs.declared.stage.ChannelStage.TheVariants.{Idle, Asking, Writing, Draining, Drained, Broken}
use Rattle.sub_files.specs.declared.open_file.Fallen.{Fallen}
use Rattle.sub_files.specs.declared.open_file.OpenFile.{OpenFile}
use Rattle.sub_files.specs.Cuts.{last_number}
use Rattle.sub_files.specs.Patterns.{piece_name_by}
use Rattle.sub_files.specs.Pieces.{Series, HoldsRun, HasPart, series_of}
pub use Rattle.sub_files.specs.RecordFiles.{ClosesPart}

-- the run number, the time and the dump of the record that begins a run's file
pub record FileHead : Type 0 where
  pub run : ℕ
  pub time : ℕ
  pub dump : List ℕ

-- What a logger keeps of its calls on one buffer: it sends nothing, and names only clients that an attach of its own gave.
pub record KeepsOwnCalls (own : List BufferEntry) : Type 0 where
  pub sends_none : EachCall SendsNone own
  pub own_calls : AreOwnCalls (calls_after [] own)

-- No attach among these calls gave a client that the caller has: one that an earlier attach among them gave, and that no call of its
-- own detached since. So it is where no other caller detaches a client of this one.
abbrev pub GivesEachOnce : (own : List BufferEntry) → Type 0
GivesEachOnce own = (before after : List BufferEntry) → (name : List ℕ) → (client call : ℕ) →
    own ≡ before ++ Attach name (Ok client) ∷ after → IsGivenAt before call client → ⊥

-- the client, if there is one, is the caller's own
abbrev pub IsOwnClient : Option ℕ → List BufferEntry → Type 0
IsOwnClient None own = ⊤
IsOwnClient (Some n) own = gave_number (calls_after [] own) n ≡ true

-- the client, if there is one, asks for nothing
abbrev pub AsksNothing : Option ℕ → List BufferEntry → Type 0
AsksNothing None own = ⊤
AsksNothing (Some client) own = (n : ℕ) → asks (calls_after [] own) client n ≡ false

-- What all files of the run with this head have in common: their names, the most bytes of a file, where 0 is no limit, and the
-- record that begins each of them.
abbrev pub series_at : ChannelSpec → FileHead → Series
series_at spec head = series_of spec.pattern spec.sub_bytes (record { run = head.run; time = head.time }) head.dump

-- The files of the open run hold these events, which may stand in run files: they are cut into pieces, one for each file, and the
-- last piece is being written.
pub record FilesHold (spec : ChannelSpec) (head : FileHead) (seen : Seen) (opened : ChannelRun) (events : List Event) : Type 0 where
  pub run : head.run ≡ opened.run
  pub time : head.time ≡ opened.time
  pub fine : All IsFileEvent events
  pub holds : HoldsRun seen (series_at spec head) opened.at events

-- The files of the run that broke off are closed, and have a first part of these events, which is cut into pieces.
pub record FilesLeft (spec : ChannelSpec) (head : FileHead) (seen : Seen) (opened : ChannelRun) (fallen : Fallen) (events : List Event) : Type 0 where
  pub run : head.run ≡ opened.run
  pub time : head.time ≡ opened.time
  pub fine : All IsFileEvent events
  pub part : HasPart seen (series_at spec head) fallen [] events

-- How far a channel is, where `Holds` says what its files hold that are being written, and `Left` what those have that broke off.

-- the run is not begun yet
pub record AskingWith (Holds : ChannelRun → List Event → Type 0) (spec : ChannelSpec) (client : Option ℕ) (opened : ChannelRun) (own : List BufferEntry) : Type 0 where
  pub of : client ≡ Some opened.client
  pub asking : IsAskingFor own opened.client spec.id spec.mask opened.request opened.start
  pub holds : Holds opened []

-- the place is one of the run: from its begin on, and below its end, where that is marked
abbrev pub is_in_run : (begun : ℕ) → (ended : Option ℕ) → (place : ℕ) → Bool
is_in_run begun None place = nat_le begun place
is_in_run begun (Some end) place = is_place_within begun end place

-- the client reads the run, which is on, or was ended at a place, and these are the events that it got
abbrev pub ReadsUntil : (ended : Option ℕ) → List BufferEntry → List GotEvent → (client id mask request start begun : ℕ) → List Event → Type 0
ReadsUntil None own got client id mask request start begun events = IsReading own got client id mask request start begun events
ReadsUntil (Some end) own got client id mask request start begun events = IsDraining own got client id mask request start begun end events

-- the client reads the run, and the files hold the events that it got
pub record ReadingWith (Holds : ChannelRun → List Event → Type 0) (spec : ChannelSpec) (client : Option ℕ) (run : BegunRun) (own : List BufferEntry) (got : List GotEvent) : Type 0 where
  pub events : List Event
  pub of : client ≡ Some run.opened.client
  pub reads : ReadsUntil run.ended own got run.opened.client spec.id spec.mask run.opened.request run.opened.start run.begun events
  pub holds : Holds run.opened events

-- The client has read the run to its end, where that was marked; where it could not be, up to some point.
abbrev pub HasReadUntil : (ended : Option ℕ) → List BufferEntry → List GotEvent → (client id mask request start begun : ℕ) → List Event → Type 0
HasReadUntil None own got client id mask request start begun events = HasReadOn own got client id mask request start begun events
HasReadUntil (Some end) own got client id mask request start begun events = HasReadRun own got client id mask request start begun end events

-- the client has read the run, its request is cancelled, and the files hold the events that it got
pub record DrainedWith (Holds : ChannelRun → List Event → Type 0) (spec : ChannelSpec) (client : Option ℕ) (run : BegunRun) (own : List BufferEntry) (got : List GotEvent) : Type 0 where
  pub events : List Event
  pub of : client ≡ Some run.opened.client
  pub nothing : AsksNothing client own
  pub reads : HasReadUntil run.ended own got run.opened.client spec.id spec.mask run.opened.request run.opened.start run.begun events
  pub holds : Holds run.opened events

-- the client has read a first part of the run, of which the end is marked or not
abbrev pub HasReadPart : (ended : Option ℕ) → List BufferEntry → List GotEvent → (client id mask request start begun : ℕ) → List Event → Type 0
HasReadPart None own got client id mask request start begun events = HasReadOn own got client id mask request start begun events
HasReadPart (Some end) own got client id mask request start begun events = HasCutRun own got client id mask request start begun end events

-- the client has read a part of the run, its request is cancelled, and the files are left with the events that it got
pub record BrokenWith (Left : ChannelRun → Fallen → List Event → Type 0) (spec : ChannelSpec) (client : Option ℕ) (run : BegunRun) (fallen : Fallen) (own : List BufferEntry) (got : List GotEvent) : Type 0 where
  pub events : List Event
  pub of : client ≡ Some run.opened.client
  pub nothing : AsksNothing client own
  pub reads : HasReadPart run.ended own got run.opened.client spec.id spec.mask run.opened.request run.opened.start run.begun events
  pub left : Left run.opened fallen events

-- a run that is on
abbrev pub run_begun : ChannelRun → (begun : ℕ) → BegunRun
run_begun opened begun = record { opened = opened; begun = begun; ended = None }

-- a channel in this stage
abbrev pub StageWith : (Holds : ChannelRun → List Event → Type 0) → (Left : ChannelRun → Fallen → List Event → Type 0) → ChannelSpec → Option ℕ → ChannelStage → List BufferEntry → List GotEvent → Type 0
StageWith Holds Left spec client Idle own got = AsksNothing client own
StageWith Holds Left spec client (Asking opened) own got = AskingWith Holds spec client opened own
StageWith Holds Left spec client (Writing opened begun) own got = ReadingWith Holds spec client (run_begun opened begun) own got
StageWith Holds Left spec client (Draining run) own got = ReadingWith Holds spec client run own got
StageWith Holds Left spec client (Drained run) own got = DrainedWith Holds spec client run own got
StageWith Holds Left spec client (Broken run fallen) own got = BrokenWith Left spec client run fallen own got

-- a channel, with the calls of the logger on its buffer, what the logger got there, and the files
pub record StandsWith (Holds : ChannelRun → List Event → Type 0) (Left : ChannelRun → Fallen → List Event → Type 0) (spec : ChannelSpec) (client : Option ℕ) (stage : ChannelStage) (own : List BufferEntry) (got : List GotEvent) : Type 0 where
  pub port : KeepsOwnCalls own
  pub own_client : IsOwnClient client own
  pub at : StageWith Holds Left spec client stage own got

-- a channel, with the calls of the logger on its buffer, what the logger got there, and the files of its run
abbrev pub ChannelStands : ChannelSpec → Option ℕ → ChannelStage → FileHead → List BufferEntry → List GotEvent → Seen → Type 0
ChannelStands spec client stage head own got seen = StandsWith (FilesHold spec head seen) (FilesLeft spec head seen) spec client stage own got

-- the run that the channel writes, or broke off
abbrev pub channel_run : ChannelStage → Option ChannelRun
channel_run Idle = None
channel_run (Asking opened) = Some opened
channel_run (Writing opened begun) = Some opened
channel_run (Draining run) = Some run.opened
channel_run (Drained run) = Some run.opened
channel_run (Broken run fallen) = Some run.opened

-- the run whose last file is being written
abbrev pub written_run : ChannelStage → Option ChannelRun
written_run Idle = None
written_run (Asking opened) = Some opened
written_run (Writing opened begun) = Some opened
written_run (Draining run) = Some run.opened
written_run (Drained run) = Some run.opened
written_run (Broken run fallen) = None

-- The last file of the run is in use for writing, under its name, and its number is one that a file may have.
pub record HasLastOpen (seen : Seen) (spec : ChannelSpec) (opened : ChannelRun) : Type 0 where
  pub writes : IsTrue (seen.writes opened.at.file)
  pub named : seen.name_of opened.at.file ≡ piece_name_by spec.pattern opened.run opened.at.sub
  pub few : opened.at.sub ≤ last_number

-- so it is with the run, if there is one
abbrev pub IsLastOpen : Seen → ChannelSpec → Option ChannelRun → Type 0
IsLastOpen seen spec None = ⊤
IsLastOpen seen spec (Some opened) = HasLastOpen seen spec opened

-- how many files of its run the channel has made
abbrev pub files_by : ChannelStage → ℕ
files_by Idle = 0
files_by (Asking opened) = opened.at.sub + 1
files_by (Writing opened begun) = opened.at.sub + 1
files_by (Draining run) = run.opened.at.sub + 1
files_by (Drained run) = run.opened.at.sub + 1
files_by (Broken run fallen) = fallen.files

-- the open run, with this file being written
abbrev pub run_writing : BegunRun → OpenFile → BegunRun
run_writing run at = record run { opened = record run.opened { at = at } }

-- the stage, with this file being written
abbrev pub stage_at : ChannelStage → OpenFile → ChannelStage
stage_at (Writing opened begun) at = Writing (record opened { at = at }) begun
stage_at (Draining run) at = Draining (run_writing run at)
stage_at stage at = stage

-- Where the channel found the name of the file behind its last one taken, there is a file of that name, where names are told.
abbrev pub KnowsTaken : Seen → ChannelSpec → ChannelStage → Type 0
KnowsTaken seen spec stage = (opened : ChannelRun) → channel_run stage ≡ Some opened → IsTrue opened.at.taken → IsTrue seen.names →
    IsSome (seen.at (piece_name_by spec.pattern opened.run (opened.at.sub + 1)))

-- the stage once the run was begun at this place
abbrev pub stage_begun : ChannelStage → (begun : ℕ) → ChannelStage
stage_begun (Asking opened) begun = Writing opened begun
stage_begun stage begun = stage

-- the place at which a run was ended, with this mark more
abbrev pub end_marked : (before mark : Option ℕ) → Option ℕ
end_marked None mark = mark
end_marked (Some end) mark = Some end

-- the stage once the run was ended at this place, or could not be
abbrev pub stage_ended : ChannelStage → (ended : Option ℕ) → ChannelStage
stage_ended (Writing opened begun) ended = Draining (record { opened = opened; begun = begun; ended = ended })
stage_ended (Broken run fallen) ended = Broken (record run { ended = end_marked run.ended ended }) fallen
stage_ended stage ended = stage

-- a run whose client is being drained is not ended again
abbrev pub EndsOnce : ChannelStage → Result ℕ MarkRefusal → Type 0
EndsOnce (Draining run) (Ok place) = ⊥
EndsOnce stage reply = ⊤

-- the place of a mark, where it was accepted
abbrev pub place_marked : Result ℕ MarkRefusal → Option ℕ
place_marked (Ok place) = Some place
place_marked (Err why) = None

-- the run of a channel that reads its buffer
abbrev pub reading_run : ChannelStage → Option BegunRun
reading_run (Writing opened begun) = Some (run_begun opened begun)
reading_run (Draining run) = Some run
reading_run stage = None

-- the place is at or behind the end of the run, where that is marked
abbrev pub is_behind_end : (ended : Option ℕ) → (place : ℕ) → Bool
is_behind_end None place = false
is_behind_end (Some end) place = nat_le end place

-- the request of the open run was cancelled, with any reply
abbrev pub CancelsRequest : Access → Access → ChannelRun → Type 0
CancelsRequest a b opened = (reply : Result ⊤ RequestRefusal) × Calls a b (Cancel opened.client opened.request reply)
