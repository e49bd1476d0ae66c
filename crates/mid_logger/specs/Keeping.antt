-- What each step of a channel keeps of it, and which files it changes.
use Rattle.std.specs.Prelude.{◌≡◌, ◌≢◌, ◌≤◌, ◌<◌, ◌+◌, ℕ, suc, false, length, IsTrue, IsSome, OnOk, OnErr, List, [], ◌∷◌, ◌++◌, Option, Some, None, Result, Ok, ◌⊎◌, ⊤}
use Rattle.std.specs.Option.{option_map}
use Rattle.daq_types.specs.declared.runs.ChannelState.{ChannelState}
use Rattle.daq_types.specs.declared.runs.Order.{Order}
use Rattle.daq_types.specs.declared.runs.Why.{Why}
use Rattle.event.specs.Events.{record_limit}
use Rattle.daq_io.specs.Seen.{Seen, GoesOn, KeepsNumber, Touches}
use Rattle.buffer_core.specs.declared.replies.MarkRefusal.{MarkRefusal}
use Rattle.buffer_core.specs.declared.entry.BufferEntry.{BufferEntry}
use Rattle.buffer_core.specs.declared.entry.BufferEntry.TheVariants.{Begin, End}
use Rattle.buffer_core.specs.Ports.{Access, GotEvent}
use Rattle.member_model.specs.OwnCalls.{calls_after}
use Rattle.member_model.specs.FairCalls.{AreLoneRequests}
use Rattle.sub_files.specs.Cuts.{last_number}
use Rattle.sub_files.specs.Patterns.{piece_name_by}
use Rattle.sub_files.specs.RecordFiles.{IsGone}
use Rattle.sub_files.specs.Rolls.{first_file}
use Rattle.mid_logger.specs.declared.channel_spec.ChannelSpec.{ChannelSpec}
use Rattle.mid_logger.specs.declared.stage.ChannelRun.{ChannelRun}
use Rattle.mid_logger.specs.declared.stage.ChannelStage.{ChannelStage}
use Rattle.mid_logger.specs.declared.stage.ChannelStage.TheVariants.{Idle, Asking, Writing}
use Rattle.mid_logger.specs.Patterns.{file_name_by}
use Rattle.mid_logger.specs.Channels.{FileHead, GivesEachOnce, ChannelStands, IsLastOpen, KnowsTaken, channel_run, written_run, files_by, stage_ended, place_marked, EndsOnce}
use Rattle.mid_logger.specs.Pulls.{PullOf, Pulls}
use Rattle.mid_logger.specs.ChannelTurns.{ChannelAt, OpensBy, asking_run, drained_run}
use Rattle.mid_logger.specs.ChannelEnds.{CancelsStanding, RemovesRun, ClosesFile, HasLeft, left_run, end_of, stage_settled}

-- Of these names the files of the first changed at most, so many as are made now, and of other names none. What was not made before
-- had no file, where names are told. Each number that was in use for writing stays, but that of the file that was written, if there
-- is one.
pub record ChangesFiles (names : ℕ → List ℕ) (before now : ℕ) (written : Option ChannelRun) (old new : Seen) : Type 0 where
  pub told : new.names ≡ old.names
  pub on : GoesOn old new
  pub others : (name : List ℕ) → ((n : ℕ) → n < now → name ≢ names n) → new.at name ≡ old.at name
  pub fresh : (n : ℕ) → before ≤ n → n < now → IsGone old (names n)
  pub numbers : (number : ℕ) → IsTrue (old.writes number) → ((r : ChannelRun) → written ≡ Some r → number ≢ r.at.file) →
      KeepsNumber old new number

-- at most the files of the run, if there is one, changed
abbrev pub ChangesRun : ChannelSpec → (run written : Option ChannelRun) → (before now : ℕ) → (old new : Seen) → Type 0
ChangesRun spec None written before now old new = new ≡ old
ChangesRun spec (Some opened) written before now old new =
    ChangesFiles (piece_name_by spec.pattern opened.run) before now written old new

-- where names are told, each name that was there is there
abbrev pub KeepsThere : (old new : Seen) → Type 0
KeepsThere old new = IsTrue old.names → (name : List ℕ) → IsSome (old.at name) → IsSome (new.at name)

-- A pull.

-- the run, whichever file is written
abbrev pub any_file : ChannelRun → ChannelRun
any_file r = record r { at = first_file [] 0 }

-- The run stays, with one file more at the most, and no more than it may have. Its last file may be written no more; one that is written is the same, or under a
-- number that was not in use.
pub record KeepsRun (old : Seen) (stage later : ChannelStage) : Type 0 where
  pub run : option_map any_file (channel_run later) ≡ option_map any_file (channel_run stage)
  pub made : files_by stage ≤ files_by later
  pub one : files_by later ≤ files_by stage + 1
  pub few : files_by stage ≤ suc last_number → files_by later ≤ suc last_number
  pub written : (w : ChannelRun) → written_run later ≡ Some w →
      (v : ChannelRun) × (written_run stage ≡ Some v) × ((w.at.file ≡ v.at.file) ⊎ (old.writes w.at.file ≡ false))

abbrev pub PullsKeep : Type 0
PullsKeep = (p : PullOf) → (room : ℕ) → (client : Option ℕ) → (head : FileHead) → Pulls p room → head.dump ≡ p.dump →
    ChannelStands p.spec client p.stage head p.port.own p.port.got p.files →
    ChannelStands p.spec client p.later_stage head p.later_port.own p.later_port.got p.later_files

abbrev pub PullsChange : Type 0
PullsChange = (p : PullOf) → (room : ℕ) → Pulls p room → IsLastOpen p.files p.spec (written_run p.stage) →
    ChangesRun p.spec (channel_run p.stage) (written_run p.stage) (files_by p.stage) (files_by p.later_stage) p.files p.later_files
    × KeepsRun p.files p.stage p.later_stage × IsLastOpen p.later_files p.spec (written_run p.later_stage)

-- what is there stays there, and the channel knows which name it found taken
abbrev pub PullsKnow : Type 0
PullsKnow = (p : PullOf) → (room : ℕ) → (client : Option ℕ) → (head : FileHead) → Pulls p room → head.dump ≡ p.dump →
    ChannelStands p.spec client p.stage head p.port.own p.port.got p.files →
    KeepsThere p.files p.later_files
    × (KnowsTaken p.files p.spec p.stage → KnowsTaken p.later_files p.spec p.later_stage)

-- Calling off.

abbrev pub AbortsKeep : Type 0
AbortsKeep = (spec : ChannelSpec) → (client : Option ℕ) → (stage : ChannelStage) → (head : FileHead) → (a b : Access) →
    (seen later : Seen) →
    CancelsStanding (asking_run stage) a b → ChannelStands spec client stage head a.own a.got seen →
    ChannelStands spec client Idle head b.own b.got later

abbrev pub AbortsChange : Type 0
AbortsChange = (spec : ChannelSpec) → (stage : ChannelStage) → (old new : Seen) → (faults later : ℕ) →
    RemovesRun (channel_run stage) (written_run stage) spec (files_by stage) old new faults later →
    IsLastOpen old spec (written_run stage) →
    ChangesRun spec (channel_run stage) (written_run stage) (files_by stage) (files_by stage) old new

-- Ending the files.

abbrev pub ClosesKeep : Type 0
ClosesKeep = (spec : ChannelSpec) → (client : Option ℕ) → (stage : ChannelStage) → (state : ChannelState) →
    (time : ℕ) → (dump : Option (List ℕ)) →
    (head : FileHead) → (own : List BufferEntry) → (got : List GotEvent) → (old new : Seen) → (faults later : ℕ) →
    ClosesFile (drained_run stage) stage state time dump old new faults later →
    ChannelStands spec client stage head own got old →
    ChannelStands spec client (stage_settled stage) head own got new
    × HasLeft (left_run stage) (end_of stage state) spec head time dump own got new

abbrev pub ClosesChange : Type 0
ClosesChange = (spec : ChannelSpec) → (stage : ChannelStage) → (state : ChannelState) → (time : ℕ) →
    (dump : Option (List ℕ)) →
    (old new : Seen) → (faults later : ℕ) → ClosesFile (drained_run stage) stage state time dump old new faults later →
    IsLastOpen old spec (written_run stage) →
    ChangesRun spec (channel_run stage) (written_run stage) (files_by stage) (files_by stage) old new

-- what is there stays there
abbrev pub ClosesKnow : Type 0
ClosesKnow = (spec : ChannelSpec) → (client : Option ℕ) → (stage : ChannelStage) → (state : ChannelState) →
    (time : ℕ) → (dump : Option (List ℕ)) →
    (head : FileHead) → (own : List BufferEntry) → (got : List GotEvent) → (old new : Seen) → (faults later : ℕ) →
    ClosesFile (drained_run stage) stage state time dump old new faults later →
    ChannelStands spec client stage head own got old → KeepsThere old new

-- Opening a run.

-- the head of the file of a run of this order
abbrev pub order_head : Order → (dump : List ℕ) → FileHead
order_head order dump = record { run = order.run; time = order.time; dump = dump }

abbrev pub OpensKeep : Type 0
OpensKeep = (spec : ChannelSpec) → (order : Order) → (dump : List ℕ) → (r : Result ⊤ Why) → (a b : ChannelAt) →
    (head : FileHead) →
    OpensBy r spec order dump a b → a.stage ≡ Idle → length dump ≤ record_limit → GivesEachOnce b.port.own →
    ChannelStands spec a.client a.stage head a.port.own a.port.got a.files →
    OnOk r (ChannelStands spec b.client b.stage (order_head order dump) b.port.own b.port.got b.files)
    × OnErr r (ChannelStands spec b.client b.stage head b.port.own b.port.got b.files)

-- An open makes its request, whatever that is replied, while the client has none.
abbrev pub OpensAlone : Type 0
OpensAlone = (spec : ChannelSpec) → (order : Order) → (dump : List ℕ) → (r : Result ⊤ Why) → (a b : ChannelAt) →
    (head : FileHead) →
    OpensBy r spec order dump a b → a.stage ≡ Idle → GivesEachOnce b.port.own →
    ChannelStands spec a.client a.stage head a.port.own a.port.got a.files →
    AreLoneRequests (calls_after [] a.port.own) → AreLoneRequests (calls_after [] b.port.own)

-- At most the file of this name changed, of which there was none, where names are told; or no file did. Each number
-- that was in use for writing stays.
pub record OpensRunFile (name : List ℕ) (old new : Seen) : Type 0 where
  pub touches : Touches old new name
  pub on : GoesOn old new
  pub fresh : IsGone old name ⊎ ((other : List ℕ) → new.at other ≡ old.at other)
  pub numbers : (number : ℕ) → IsTrue (old.writes number) → KeepsNumber old new number

abbrev pub OpensChange : Type 0
OpensChange = (spec : ChannelSpec) → (order : Order) → (dump : List ℕ) → (r : Result ⊤ Why) → (a b : ChannelAt) →
    OpensBy r spec order dump a b →
    OpensRunFile (file_name_by spec.pattern order.run) a.files b.files × KeepsThere a.files b.files

-- Where names are told, each file that a channel made in its run is there.
abbrev pub FilesThere : Type 0
FilesThere = (spec : ChannelSpec) → (client : Option ℕ) → (stage : ChannelStage) → (head : FileHead) →
    (own : List BufferEntry) → (got : List GotEvent) →
    (seen : Seen) → ChannelStands spec client stage head own got seen → (opened : ChannelRun) →
    channel_run stage ≡ Some opened →
    IsTrue seen.names → (n : ℕ) → n < files_by stage → IsSome (seen.at (piece_name_by spec.pattern opened.run n))

-- Marks.

abbrev pub BegunKeeps : Type 0
BegunKeeps = (spec : ChannelSpec) → (client : Option ℕ) → (opened : ChannelRun) → (begun : ℕ) → (head : FileHead) →
    (own : List BufferEntry) → (got : List GotEvent) → (seen : Seen) →
    ChannelStands spec client (Asking opened) head own got seen →
    ChannelStands spec client (Writing opened begun) head (own ++ Begin opened.start (Ok begun) ∷ []) got seen

abbrev pub EndedKeeps : Type 0
EndedKeeps = (spec : ChannelSpec) → (client : Option ℕ) → (stage : ChannelStage) → (opened : ChannelRun) →
    (reply : Result ℕ MarkRefusal) → (head : FileHead) →
    (own : List BufferEntry) → (got : List GotEvent) → (seen : Seen) → channel_run stage ≡ Some opened →
    EndsOnce stage reply →
    ChannelStands spec client stage head own got seen →
    ChannelStands spec client (stage_ended stage (place_marked reply)) head
    (own ++ End opened.start reply ∷ []) got seen
