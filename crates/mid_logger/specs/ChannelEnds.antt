-- What a channel does where a run is called off, or its files are ended.
use Rattle.std.specs.Prelude.{◌≡◌, ◌≤◌, ℕ, ◌+◌, ◌-◌, All, List, [], Option, Some, None, Result, Ok, Err, ◌⊎◌, ⊤}
use Rattle.daq_types.specs.declared.events.Event.{Event}
use Rattle.daq_types.specs.declared.runs.ChannelEnd.{ChannelEnd}
use Rattle.daq_types.specs.declared.runs.ChannelState.{ChannelState}
use Rattle.daq_types.specs.declared.runs.ChannelState.TheVariants.{Ended, NoEnd, NoMark, Broken as IsBroken, Idle as IsIdle, Writing as IsWriting}
use Rattle.event.specs.Events.{encoding}
use Rattle.event.specs.RunFile.{end_record, IsFileEvent}
use Rattle.daq_io.specs.Counts.{Rose, first_of}
use Rattle.daq_io.specs.declared.folder.FileState.TheVariants.{Closed}
use Rattle.daq_io.specs.Seen.{Seen, Closes}
use Rattle.buffer_core.specs.declared.entry.BufferEntry.{BufferEntry}
use Rattle.buffer_core.specs.Ports.{Access, GotEvent}
use Rattle.sub_files.specs.declared.open_file.Fallen.{Fallen}
use Rattle.sub_files.specs.Patterns.{piece_name_by}
use Rattle.sub_files.specs.Pieces.{HasRun, HasPart}
use Rattle.sub_files.specs.RecordFiles.{AreGone, ClosesAnyhow, ClosesPart, LeavesForFaults, NamesOneOf, RemovesNames}
use Rattle.sub_files.specs.Rolls.{fallen_at}
use Rattle.mid_logger.specs.declared.channel_spec.ChannelSpec.{ChannelSpec}
use Rattle.mid_logger.specs.declared.stage.ChannelRun.{ChannelRun}
use Rattle.mid_logger.specs.declared.stage.BegunRun.{BegunRun}
use Rattle.mid_logger.specs.declared.stage.ChannelStage.{ChannelStage}
use Rattle.mid_logger.specs.declared.stage.ChannelStage.TheVariants.{Idle, Asking, Writing, Draining, Drained, Broken}
use Rattle.mid_logger.specs.Channels.{FileHead, CancelsRequest, HasReadUntil, HasReadPart, files_by, series_at}

-- Calling off.

-- the request that stands, if there is one, is cancelled
abbrev pub CancelsStanding : Option ChannelRun → (a b : Access) → Type 0
CancelsStanding None a b = b ≡ a
CancelsStanding (Some opened) a b = CancelsRequest a b opened

-- the last file, if it is being written, is closed, whole or in vain
abbrev pub ClosesOpen : Option ChannelRun → (a b : Seen) → Type 0
ClosesOpen None a b = b ≡ a
ClosesOpen (Some opened) a b = ClosesAnyhow a b opened.at.file

-- the name of the last file, if it is being written
abbrev pub name_written : Seen → Option ChannelRun → List ℕ
name_written seen None = []
name_written seen (Some opened) = seen.name_of opened.at.file

-- one result and then another: the first failure, if there is one
abbrev pub both_done : {E : Type 0} → (first second : Result ⊤ E) → Result ⊤ E
both_done (Ok done) second = second
both_done (Err why) second = Err why

-- The last file, if it is being written, is closed, and the files of the run are removed, so many. No more of them may stay than calls to
-- remove one failed; and where no call failed, none does.
pub record DropsFiles (spec : ChannelSpec) (written : Option ChannelRun) (run many : ℕ) (a b : Seen) (faults later : ℕ) : Type 0 where
  pub closed : Seen
  pub between : ℕ
  pub closes : ClosesOpen written a closed
  pub counted : faults ≤ between
  pub removes : RemovesNames (piece_name_by spec.pattern run) many closed b
  pub leaves : LeavesForFaults (piece_name_by spec.pattern run) many closed b between later
  pub gone : AreGone closed b (piece_name_by spec.pattern run) many ⊎ Rose faults later

-- All files of the channel's run are removed, so many. Where it has none, nothing is done.
abbrev pub RemovesRun : (run written : Option ChannelRun) → ChannelSpec → (many : ℕ) → (a b : Seen) → (faults later : ℕ) → Type 0
RemovesRun None written spec many a b faults later = (b ≡ a) × (later ≡ faults)
RemovesRun (Some opened) written spec many a b faults later = DropsFiles spec written opened.run many a b faults later

-- the first fault is that of the file that is written, where there was none before
abbrev pub NamesOpen : ChannelSpec → (written : Option ChannelRun) → (old new : Option (List ℕ)) → Type 0
NamesOpen spec None old new = ⊥
NamesOpen spec (Some opened) old new = new ≡ first_of old (piece_name_by spec.pattern opened.run opened.at.sub)

-- the first fault is that of one of the run's files, where there was none before and one is counted now
abbrev pub NamesRun : ChannelSpec → (run written : Option ChannelRun) → (many : ℕ) → (old new : Option (List ℕ)) → Type 0
NamesRun spec None written many old new = new ≡ old
NamesRun spec (Some opened) written many old new =
    (new ≡ old) ⊎ (NamesOpen spec written old new ⊎ NamesOneOf (piece_name_by spec.pattern opened.run) many old new)

-- Ending a file.

-- what a file gets behind its events: the end record, where the end of the run was marked and there is a dump
abbrev pub last_bytes : (run : ℕ) → (ended : Option ℕ) → (time : ℕ) → (dump : Option (List ℕ)) → List ℕ
last_bytes run (Some end) time (Some dump) = encoding (end_record run time dump)
last_bytes run ended time dump = []

-- how a file ends that is closed so
abbrev pub state_ended : (ended : Option ℕ) → (dump : Option (List ℕ)) → ChannelState
state_ended None dump = NoMark
state_ended (Some end) None = NoEnd
state_ended (Some end) (Some dump) = Ended

-- the state of a channel that is not drained
abbrev pub state_otherwise : ChannelStage → ChannelState
state_otherwise Idle = IsIdle
state_otherwise (Asking opened) = IsWriting
state_otherwise (Writing opened begun) = IsWriting
state_otherwise (Draining run) = IsWriting
state_otherwise (Drained run) = IsWriting
state_otherwise (Broken run fallen) = IsBroken

-- the stage behind the answer to a stop
abbrev pub stage_settled : ChannelStage → ChannelStage
stage_settled (Asking opened) = Asking opened
stage_settled (Writing opened begun) = Writing opened begun
stage_settled (Draining run) = Draining run
stage_settled stage = Idle

-- The file of a run that was read is closed with its last bytes; or a call on it failed, and it has a first part of them.
abbrev pub ClosesRead : ChannelState → BegunRun → (time : ℕ) → (dump : Option (List ℕ)) → (a b : Seen) → (faults later : ℕ) → Type 0
ClosesRead IsBroken run time dump a b faults later = ClosesPart a b run.opened.at.file (last_bytes run.opened.run run.ended time dump) × Rose faults later
ClosesRead state run time dump a b faults later =
    (state ≡ state_ended run.ended dump) × Closes a b run.opened.at.file Closed (last_bytes run.opened.run run.ended time dump) × (later ≡ faults)

-- What becomes of a channel's file: where its client has read the run, it is closed; else no call is made.
abbrev pub ClosesFile : Option BegunRun → ChannelStage → ChannelState → (time : ℕ) → (dump : Option (List ℕ)) → (a b : Seen) → (faults later : ℕ) → Type 0
ClosesFile (Some run) stage state time dump a b faults later = ClosesRead state run time dump a b faults later
ClosesFile None stage state time dump a b faults later = (state ≡ state_otherwise stage) × (b ≡ a) × (later ≡ faults)

-- where a file was to be ended, and the channel is told to be broken, the first fault is that of the file, where there was none before
abbrev pub EndNames : ChannelSpec → (drained : Option BegunRun) → ChannelState → (old new : Option (List ℕ)) → Type 0
EndNames spec (Some run) IsBroken old new = new ≡ first_of old (piece_name_by spec.pattern run.opened.run run.opened.at.sub)
EndNames spec drained state old new = new ≡ old

-- how many files of its run have both records and were closed without a fault, once the last is ended and this is told of it
abbrev pub framed_by : ChannelStage → ChannelState → ℕ
framed_by (Drained run) Ended = run.opened.at.sub + 1
framed_by (Broken run fallen) state = fallen.framed
framed_by stage state = files_by stage - 1

-- what is told of a channel once its files are ended
abbrev pub end_of : ChannelStage → ChannelState → ChannelEnd
end_of stage state = record { state = state; files = files_by stage; framed = framed_by stage state }

-- What the files have that were ended.

-- The client read the run, and the files are closed, so many: they have the events that it got, cut into pieces, and the last one
-- ends with the last bytes.
pub record HasClosed (spec : ChannelSpec) (head : FileHead) (run : BegunRun) (files : ℕ) (time : ℕ) (dump : Option (List ℕ)) (own : List BufferEntry) (got : List GotEvent) (seen : Seen) : Type 0 where
  pub events : List Event
  pub number : head.run ≡ run.opened.run
  pub began : head.time ≡ run.opened.time
  pub fine : All IsFileEvent events
  pub reads : HasReadUntil run.ended own got run.opened.client spec.id spec.mask run.opened.request run.opened.start run.begun events
  pub stored : HasRun seen (series_at spec head) files run.opened.at.taken (last_bytes run.opened.run run.ended time dump) events

-- The client read a part of the run, and the files have a first part of the events that it got, cut into pieces; or it read the
-- run, and the files have that, and a first part of the last bytes.
pub record HasBroken (spec : ChannelSpec) (head : FileHead) (run : BegunRun) (fallen : Fallen) (time : ℕ) (dump : Option (List ℕ)) (own : List BufferEntry) (got : List GotEvent) (seen : Seen) : Type 0 where
  pub events : List Event
  pub number : head.run ≡ run.opened.run
  pub began : head.time ≡ run.opened.time
  pub fine : All IsFileEvent events
  pub reads : (HasReadPart run.ended own got run.opened.client spec.id spec.mask run.opened.request run.opened.start run.begun events × HasPart seen (series_at spec head) fallen [] events)
      ⊎ (HasReadUntil run.ended own got run.opened.client spec.id spec.mask run.opened.request run.opened.start run.begun events
      × HasPart seen (series_at spec head) fallen (last_bytes run.opened.run run.ended time dump) events)

-- what stands of a run of which this was told, with this state
abbrev pub HasLeftSo : ChannelState → ChannelEnd → ChannelSpec → FileHead → BegunRun → (time : ℕ) → (dump : Option (List ℕ)) → List BufferEntry → List GotEvent → Seen → Type 0
HasLeftSo IsBroken told spec head run time dump own got seen = HasBroken spec head run (fallen_at told.files told.framed) time dump own got seen
HasLeftSo state told spec head run time dump own got seen = HasClosed spec head run told.files time dump own got seen

-- what stands of a run of which this was told
abbrev pub HasLeftRead : ChannelEnd → ChannelSpec → FileHead → BegunRun → (time : ℕ) → (dump : Option (List ℕ)) → List BufferEntry → List GotEvent → Seen → Type 0
HasLeftRead told spec head run time dump own got seen = HasLeftSo told.state told spec head run time dump own got seen

-- the run of which files are left: the one that was read, or that broke off
abbrev pub left_run : ChannelStage → Option BegunRun
left_run (Drained run) = Some run
left_run (Broken run fallen) = Some run
left_run stage = None

-- what stands of the run of which files are left, if there is one
abbrev pub HasLeft : Option BegunRun → ChannelEnd → ChannelSpec → FileHead → (time : ℕ) → (dump : Option (List ℕ)) → List BufferEntry → List GotEvent → Seen → Type 0
HasLeft (Some run) told spec head time dump own got seen = HasLeftRead told spec head run time dump own got seen
HasLeft None told spec head time dump own got seen = ⊤
