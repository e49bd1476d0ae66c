-- What leaves a channel as it stands: calls on its port that name other clients, and changes of other files.
use Rattle.std.specs.Prelude.{◌≡◌, ◌≢◌, ◌<◌, ℕ, IsTrue, List, [], ◌∷◌, ◌++◌, map, Option, Some, None, Result, ⊤}
use Rattle.daq_types.specs.declared.runs.ChannelEnd.{ChannelEnd}
use Rattle.daq_types.specs.declared.runs.ChannelState.{ChannelState}
use Rattle.daq_types.specs.declared.runs.Order.{Order}
use Rattle.daq_types.specs.declared.runs.Why.{Why}
use Rattle.daq_io.specs.Seen.{Seen, GoesOn, KeepsNumber}
use Rattle.buffer_core.specs.declared.entry.BufferEntry.{BufferEntry}
use Rattle.buffer_core.specs.declared.entry.BufferEntry.TheVariants.{Receive}
use Rattle.buffer_core.specs.Ports.{Access, GotEvent, name_of, name_given}
use Rattle.member_model.specs.OwnCalls.{calls_after, IsOwnCall, SendsNone, LeavesAsking}
use Rattle.member_model.specs.ReadRuns.{EndsNot, BeginsNot}
use Rattle.sub_files.specs.Patterns.{piece_name_by}
use Rattle.mid_logger.specs.declared.channel_spec.ChannelSpec.{ChannelSpec}
use Rattle.mid_logger.specs.declared.stage.BegunRun.{BegunRun}
use Rattle.mid_logger.specs.declared.stage.ChannelRun.{ChannelRun}
use Rattle.mid_logger.specs.declared.stage.ChannelStage.{ChannelStage}
use Rattle.mid_logger.specs.declared.stage.ChannelStage.TheVariants.{Idle, Asking, Writing, Draining}
use Rattle.mid_logger.specs.Channels.{FileHead, GivesEachOnce, ChannelStands, IsLastOpen, channel_run, written_run, files_by}
use Rattle.mid_logger.specs.Pulls.{PullOf, Pulls}
use Rattle.mid_logger.specs.ChannelTurns.{ChannelAt, OpensBy, asking_run, drained_run}
use Rattle.mid_logger.specs.ChannelEnds.{CancelsStanding, RemovesRun, ClosesFile, HasLeftRead}

-- the call neither receives for the client, nor makes or cancels a request of it, nor attaches or detaches it
abbrev pub LeavesClient : Option ℕ → BufferEntry → Type 0
LeavesClient None entry = ⊤
LeavesClient (Some client) (Receive c room reply) = c ≢ client
LeavesClient (Some client) entry = LeavesAsking client entry

-- the call does not begin the run that the channel's client waits for, nor end that which it reads
abbrev pub LeavesRunOn : ChannelStage → BufferEntry → Type 0
LeavesRunOn (Asking opened) entry = BeginsNot opened.start entry
LeavesRunOn (Writing opened begun) entry = EndsNot opened.start entry
LeavesRunOn (Draining run) entry = EndsNot run.opened.start entry
LeavesRunOn stage entry = ⊤

-- the number under which the file of the run, if there is one, is written is in use as it was
abbrev pub LeavesNumber : Option ChannelRun → (old new : Seen) → Type 0
LeavesNumber None old new = ⊤
LeavesNumber (Some opened) old new = KeepsNumber old new opened.at.file

-- The files of the first of these names, so many, stay as they are, where they are told, and so does the number under which the
-- last one is written, if it is.
pub record LeavesFiles (old new : Seen) (names : ℕ → List ℕ) (many : ℕ) (written : Option ChannelRun) : Type 0 where
  pub told : new.names ≡ old.names
  pub on : GoesOn old new
  pub at : IsTrue old.names → (n : ℕ) → n < many → new.at (names n) ≡ old.at (names n)
  pub number : LeavesNumber written old new

abbrev pub LeavesRunFiles : ChannelSpec → (run written : Option ChannelRun) → (many : ℕ) → (old new : Seen) → Type 0
LeavesRunFiles spec None written many old new = ⊤
LeavesRunFiles spec (Some opened) written many old new = LeavesFiles old new (piece_name_by spec.pattern opened.run) many written

-- the files of the run that the channel writes, or broke off, stay as they are
abbrev pub LeavesChannelFiles : ChannelSpec → ChannelStage → (old new : Seen) → Type 0
LeavesChannelFiles spec stage old new = LeavesRunFiles spec (channel_run stage) (written_run stage) (files_by stage) old new

-- A call of the logger on the channel's buffer that leaves the channel's client, neither begins nor ends its run, and gives
-- these events, leaves what the channel keeps.
abbrev pub CallsBeside : Type 0
CallsBeside = (spec : ChannelSpec) → (client : Option ℕ) → (stage : ChannelStage) → (head : FileHead) →
    (own : List BufferEntry) → (got : List GotEvent) → (seen : Seen) → (entry : BufferEntry) → (given : List GotEvent) →
    ChannelStands spec client stage head own got seen →
    SendsNone entry → IsOwnCall entry (calls_after [] own) → LeavesClient client entry → LeavesRunOn stage entry →
    name_given entry ≡ map name_of given →
    ChannelStands spec client stage head (own ++ entry ∷ []) (got ++ given) seen

-- So does a change of files that leaves those of the channel's run.
abbrev pub FilesBeside : Type 0
FilesBeside = (spec : ChannelSpec) → (client : Option ℕ) → (stage : ChannelStage) → (head : FileHead) →
    (own : List BufferEntry) → (got : List GotEvent) → (old new : Seen) →
    ChannelStands spec client stage head own got old → LeavesChannelFiles spec stage old new →
    ChannelStands spec client stage head own got new

-- Two channels on one buffer have clients of their own, and their runs have files of their own: those that they made have different
-- names, where names are told, and the last ones are under two numbers, where both are written.
pub record ChannelsApart (seen : Seen) (spec : ChannelSpec) (client : Option ℕ) (stage : ChannelStage) (other : ChannelSpec) (other_client : Option ℕ) (other_stage : ChannelStage) : Type 0 where
  pub clients : (c d : ℕ) → client ≡ Some c → other_client ≡ Some d → c ≢ d
  pub names : (r s : ChannelRun) → channel_run stage ≡ Some r → channel_run other_stage ≡ Some s → IsTrue seen.names →
      (i j : ℕ) → i < files_by stage → j < files_by other_stage →
      piece_name_by spec.pattern r.run i ≢ piece_name_by other.pattern s.run j
  pub numbers : (r s : ChannelRun) → written_run stage ≡ Some r → written_run other_stage ≡ Some s → r.at.file ≢ s.at.file

-- What one channel pulls leaves what another channel on the buffer keeps, and the two are apart behind it.
abbrev pub PullsBeside : Type 0
PullsBeside = (p : PullOf) → (room : ℕ) → (client : Option ℕ) → (head : FileHead) →
    (other : ChannelSpec) → (other_client : Option ℕ) → (other_stage : ChannelStage) → (other_head : FileHead) →
    Pulls p room → IsLastOpen p.files p.spec (written_run p.stage) →
    ChannelStands p.spec client p.stage head p.port.own p.port.got p.files →
    ChannelsApart p.files p.spec client p.stage other other_client other_stage →
    ChannelStands other other_client other_stage other_head p.port.own p.port.got p.files →
    ChannelStands other other_client other_stage other_head p.later_port.own p.later_port.got p.later_files
    × ChannelsApart p.later_files p.spec client p.later_stage other other_client other_stage

-- So does the calling off of its run.
abbrev pub AbortsBeside : Type 0
AbortsBeside = (spec : ChannelSpec) → (client : Option ℕ) → (stage : ChannelStage) → (head : FileHead) →
    (other : ChannelSpec) → (other_client : Option ℕ) → (other_stage : ChannelStage) → (other_head : FileHead) →
    (a b : Access) → (old new : Seen) → (faults later : ℕ) →
    CancelsStanding (asking_run stage) a b →
    RemovesRun (channel_run stage) (written_run stage) spec (files_by stage) old new faults later →
    IsLastOpen old spec (written_run stage) →
    ChannelStands spec client stage head a.own a.got old →
    ChannelsApart old spec client stage other other_client other_stage →
    ChannelStands other other_client other_stage other_head a.own a.got old →
    ChannelStands other other_client other_stage other_head b.own b.got new

-- So does the ending of its files.
abbrev pub ClosesBeside : Type 0
ClosesBeside = (spec : ChannelSpec) → (client : Option ℕ) → (stage : ChannelStage) → (state : ChannelState) →
    (other : ChannelSpec) → (other_client : Option ℕ) → (other_stage : ChannelStage) → (other_head : FileHead) →
    (time : ℕ) → (dump : Option (List ℕ)) → (own : List BufferEntry) → (got : List GotEvent) →
    (old new : Seen) → (faults later : ℕ) →
    ClosesFile (drained_run stage) stage state time dump old new faults later →
    IsLastOpen old spec (written_run stage) →
    ChannelsApart old spec client stage other other_client other_stage →
    ChannelStands other other_client other_stage other_head own got old →
    ChannelStands other other_client other_stage other_head own got new

-- So does the opening of a run, or its refusal, where the port gives no client that the logger has; and the two channels are apart
-- then.
abbrev pub OpensBeside : Type 0
OpensBeside = (spec : ChannelSpec) → (order : Order) → (dump : List ℕ) → (answer : Result ⊤ Why) → (a b : ChannelAt) → (head : FileHead) →
    (other : ChannelSpec) → (other_client : Option ℕ) → (other_stage : ChannelStage) → (other_head : FileHead) →
    OpensBy answer spec order dump a b → GivesEachOnce b.port.own → a.stage ≡ Idle →
    ChannelStands spec a.client a.stage head a.port.own a.port.got a.files →
    ChannelsApart a.files spec a.client a.stage other other_client other_stage →
    ChannelStands other other_client other_stage other_head a.port.own a.port.got a.files →
    ChannelStands other other_client other_stage other_head b.port.own b.port.got b.files
    × ChannelsApart b.files spec b.client b.stage other other_client other_stage

-- What stands of a run whose files were ended stands behind any calls and events more, and behind changes of files that leave
-- its files.
abbrev pub LeftBeside : Type 0
LeftBeside = (told : ChannelEnd) → (spec : ChannelSpec) → (head : FileHead) → (run : BegunRun) →
    (time : ℕ) → (dump : Option (List ℕ)) → (own more : List BufferEntry) → (got given : List GotEvent) → (old new : Seen) →
    HasLeftRead told spec head run time dump own got old →
    LeavesRunFiles spec (Some run.opened) None told.files old new →
    HasLeftRead told spec head run time dump (own ++ more) (got ++ given) new
