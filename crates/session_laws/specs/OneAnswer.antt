-- One fault gives one answer: what the records of a closed session's starts tell of faults and of clashes of names was each
-- counted for itself. And none is counted without an answer: a count rose only where one of the records tells why.
use Rattle.std.specs.Prelude.{◌≡◌, ◌≢◌, ◌≤◌, ◌+◌, ℕ, sum_by, List, [], ◌++◌, slice_get, Option, Some, None, ◌⊎◌}
use Rattle.daq_types.specs.Callers.{main_caller}
use Rattle.daq_types.specs.declared.runs.ChannelState.TheVariants.{Broken}
use Rattle.daq_types.specs.declared.runs.StartOutcome.{StartOutcome}
use Rattle.daq_types.specs.declared.runs.StartOutcome.TheVariants.{Completed, Refused}
use Rattle.daq_types.specs.declared.runs.Why.TheVariants.{Exists}
use Rattle.daq_io.specs.Counts.{RoseBy}
use Rattle.daq_io.specs.Told.{FilesTold}
use Rattle.buffer_core.specs.Slots.{slot_at}
use Rattle.member_model.specs.RunEngines.{EngineEntry}
use Rattle.mid_logger.specs.declared.channel_spec.ChannelSpec.{ChannelSpec}
use Rattle.loggers.specs.OtherFiles.{specs_in}
use Rattle.loggers.specs.Reasons.{HaveNoLimit}
use Rattle.loggers.specs.ToldCounts.{faults_of_state, faults_of_refusal}
use Rattle.sub_files.specs.Patterns.{piece_name_by}
use Rattle.session_runs.specs.declared.records.ChannelFiles.{ChannelFiles}
use Rattle.session_runs.specs.declared.records.RunRecord.{RunRecord}
use Rattle.session_runs.specs.RunsFit.{MainOwn, RecordsFit, starts_begun}
use Rattle.session_laws.specs.ClosedSessions.{ClosedSession, engine_calls}
use Rattle.session_laws.specs.MembersAtEnd.{MembersAtEnd}
use Rattle.session_laws.specs.CountedFaults.{LoggerReasons, LoggerNames}
use Rattle.session_laws.specs.RecordedRuns.{clients_in}

-- one fault, where a start was refused for one
abbrev pub faults_of_outcome : StartOutcome → ℕ
faults_of_outcome Completed = 0
faults_of_outcome (Refused client why) = faults_of_refusal why

-- one clash, where a start was refused for a name
abbrev pub clashes_of_outcome : StartOutcome → ℕ
clashes_of_outcome (Refused client (Exists channel)) = 1
clashes_of_outcome outcome = 0

-- the faults of which the record of a start tells: one where it was refused for one, and one for each channel that broke off
abbrev pub faults_recorded : RunRecord → ℕ
faults_recorded r = faults_of_outcome r.outcome + sum_by (λ files. faults_of_state files.told.state) r.files

-- the clashes of which it tells
abbrev pub clashes_recorded : RunRecord → ℕ
clashes_recorded r = clashes_of_outcome r.outcome

-- Where the run files were so at first, and are so now: the count of faults rose by at least as many as these records tell, and
-- so did that of clashes.
pub record OneAnswer (runs : List RunRecord) (first now : FilesTold) : Type 0 where
  pub faults : RoseBy (sum_by faults_recorded runs) first.faults now.faults
  pub clashes : RoseBy (sum_by clashes_recorded runs) first.clashes now.clashes

-- So it is with a closed session, where the records fit the main thread's own calls up to some point.
abbrev pub OneAnswerEach : Type 0
OneAnswerEach = (c : ClosedSession) → (ends : MembersAtEnd c) → (first now : FilesTold) → LoggerReasons c ends first now →
    LoggerNames c ends first now → (own : MainOwn) → (more : List EngineEntry) →
    engine_calls c main_caller ≡ own.engine ++ more → (runs : List RunRecord) → RecordsFit (clients_in c) own runs →
    OneAnswer runs first now

-- None of these starts was refused.
abbrev pub NoneRefused : List RunRecord → Type 0
NoneRefused runs = (number : ℕ) → (r : RunRecord) → slice_get runs number ≡ Some r → r.outcome ≡ Completed

-- One of these records calls a channel Broken, and its files in that run have the name, or the next one behind them, which could not be
-- made.
pub record HasBrokenFile (runs : List RunRecord) (name : List ℕ) : Type 0 where
  pub number : ℕ
  pub run : RunRecord
  pub at : slice_get runs number ≡ Some run
  pub place : ℕ
  pub files : ChannelFiles
  pub there : slice_get run.files place ≡ Some files
  pub broken : files.told.state ≡ Broken
  pub sub : ℕ
  pub few : sub ≤ files.told.files
  pub is : piece_name_by files.pattern run.run sub ≡ name

-- One of these records is of a start that was refused, and one of these channels gives the name to a file of its run.
pub record HasRefusedFile (specs : List (Option ChannelSpec)) (runs : List RunRecord) (name : List ℕ) : Type 0 where
  pub number : ℕ
  pub run : RunRecord
  pub at : slice_get runs number ≡ Some run
  pub refused : run.outcome ≢ Completed
  pub place : ℕ
  pub spec : ChannelSpec
  pub there : slot_at specs place ≡ Some spec
  pub sub : ℕ
  pub is : piece_name_by spec.pattern run.run sub ≡ name

-- Where the run files of a logger with these channels were so at first, and are so now, each rise of a count is told. No clash was
-- counted where no record tells of one, and no channel has a limit: one with a limit may find the name of a next file taken. And no
-- fault was counted where no start was refused, and no channel broke off: a start that is refused is undone, and what fails then is
-- not told. Where no fault was named at first, the file of the first fault is that of a channel which is called Broken, or of a run
-- whose start was refused.
pub record RisesTold (specs : List (Option ChannelSpec)) (runs : List RunRecord) (first now : FilesTold) : Type 0 where
  pub clashes : HaveNoLimit specs → sum_by clashes_recorded runs ≡ 0 → now.clashes ≡ first.clashes
  pub faults : NoneRefused runs → sum_by faults_recorded runs ≡ 0 → now.faults ≡ first.faults
  pub named : first.first ≡ None → (name : List ℕ) → now.first ≡ Some name →
      HasBrokenFile runs name ⊎ HasRefusedFile specs runs name

-- So it is with a closed session, where there is one record for each start that the main thread began, and they fit its calls.
abbrev pub RisesToldEach : Type 0
RisesToldEach = (c : ClosedSession) → (ends : MembersAtEnd c) → (first now : FilesTold) → LoggerReasons c ends first now →
    LoggerNames c ends first now → (own : MainOwn) → (more : List EngineEntry) →
    engine_calls c main_caller ≡ own.engine ++ more → starts_begun more ≡ [] →
    (runs : List RunRecord) → RecordsFit (clients_in c) own runs → RisesTold (specs_in c.slots) runs first now
