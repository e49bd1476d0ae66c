-- What the counts and the records of a session that ended tell.
use Rattle.std.specs.Prelude.{◌≡◌, ℕ, IsTrue, List, [], ◌++◌, length, slice_get, Some}
use Rattle.std.specs.List.{AllByRecursion}
use Rattle.daq_types.specs.Callers.{main_caller}
use Rattle.daq_types.specs.declared.runs.StartOutcome.TheVariants.{Completed, Refused}
use Rattle.daq_types.specs.declared.runs.Why.{Why}
use Rattle.daq_io.specs.Told.{FilesTold}
use Rattle.member_model.specs.RunEngines.{EngineEntry}
use Rattle.odb_lock.specs.SharedOdbs.{first_database}
use Rattle.loggers.specs.OtherFiles.{specs_in}
use Rattle.session_setup.specs.declared.declared.DeclaredLists.{DeclaredLists}
use Rattle.session_runs.specs.declared.records.RunRecord.{RunRecord}
use Rattle.session_runs.specs.FileRows.{HasFileNamed}
use Rattle.session_runs.specs.KeptRuns.{channels_of}
use Rattle.session_runs.specs.RunEntries.{start_sheet, later_sheet, dump_saved}
use Rattle.session_runs.specs.RunsFit.{MainOwn, RunClients, FitsRefused, FitsRun, FitsWhole, RecordsFit, run_of, starts_begun}
use Rattle.daq_members.specs.LoggerSeats.{LoggerSeen}
use Rattle.session_objects.specs.declared.record.SessionRecord.{SessionRecord}
use Rattle.session_laws.specs.ClosedSessions.{ClosedSession, engine_calls, session_of}
use Rattle.session_laws.specs.EndLaws.{SessionHolds}
use Rattle.session_laws.specs.CountedFaults.{CountsHold}
use Rattle.session_laws.specs.OneAnswer.{OneAnswer, RisesTold}
use Rattle.session_laws.specs.OtherNames.{AreStartsOver, IsNameKept}
use Rattle.session_laws.specs.RecordedRuns.{RecordHolds, clients_in}
use Rattle.session_laws.specs.RefusedRecords.{IsRefusedRecord}
use Rattle.session_laws.specs.EndedSessions.{session_with, SessionEnded}

-- What the counts of run files tell of starts, channels and names is so, from those as the logger took its seat to those at the
-- end.
abbrev pub CountsSo : {D F : Type 0} {g : _} → (read : F → FilesTold) → SessionRecord D g → Type 0
CountsSo {D} {F} read r = (lists : DeclaredLists) → (logger : LoggerSeen F) →
    (ended : SessionEnded read lists logger r) →
    CountsHold (session_with read (first_database ended.shared) lists logger r)
    (read logger.first) (read logger.files)

-- who is told of in the records of a session of these declarations
abbrev pub clients_declared : DeclaredLists → RunClients
clients_declared lists =
    record { fronts = length lists.fronts; channels = channels_of lists.channels; analyzers = length lists.analyzers }

-- The record of a run that came about fits the main thread's own calls, and holds what it has of the run, which was started and
-- stopped with the sheets that these calls tell.
pub record RecordSo (c : ClosedSession) (moments : (client : ℕ) → List ℕ) (own : MainOwn) (r : RunRecord) : Type 0 where
  pub quota : ℕ
  pub fits : FitsWhole (clients_in c) own (run_of r quota) r
  pub holds : RecordHolds (session_of c moments) r
      (start_sheet (length c.analyzers) r.run r.time0 quota fits.start.dump)
      (later_sheet (run_of r quota) r.time1 (dump_saved fits.stop.saved))

-- So it is with each record of a completed start, where the records fit the main thread's own calls up to some point.
abbrev pub RecordsSo : {D F : Type 0} {g : _} → (read : F → FilesTold) → SessionRecord D g → Type 0
RecordsSo {D} {F} read r = (lists : DeclaredLists) → (logger : LoggerSeen F) →
    (ended : SessionEnded read lists logger r) →
    (holds : SessionHolds (session_with read (first_database ended.shared) lists logger r)) →
    (own : MainOwn) → (more : List EngineEntry) → ended.own ≡ own.engine ++ more →
    AllByRecursion (FitsRun (clients_declared lists) own) r.runs →
    (number : ℕ) → (record_at : RunRecord) → slice_get r.runs number ≡ Some record_at → record_at.outcome ≡ Completed →
    RecordSo (session_with read (first_database ended.shared) lists logger r)
    holds.moments own record_at

-- Where there is one record for each start that the main thread began, each start is over.
abbrev pub StartsOverSo : {D F : Type 0} {g : _} → (read : F → FilesTold) → SessionRecord D g → Type 0
StartsOverSo {D} {F} read r = (lists : DeclaredLists) → (logger : LoggerSeen F) →
    (ended : SessionEnded read lists logger r) →
    (own : MainOwn) → (more : List EngineEntry) → ended.own ≡ own.engine ++ more → starts_begun more ≡ [] →
    RecordsFit (clients_declared lists) own r.runs →
    AreStartsOver (engine_calls
    (session_with read (first_database ended.shared) lists logger r) main_caller)

-- none of these records has a file of this name
abbrev pub IsInNoRecord : List RunRecord → (name : List ℕ) → Type 0
IsInNoRecord records name = (place : ℕ) → (r : RunRecord) → slice_get records place ≡ Some r →
    HasFileNamed r.run r.files name → ⊥

-- Where there is one record for each start that the main thread began, and names are told: each name that is in no record is there
-- where it was as the logger took its seat, with the same bytes, but where a start was refused and the removing of its file failed.
abbrev pub NamesSo : {D F : Type 0} {g : _} → (read : F → FilesTold) → SessionRecord D g → Type 0
NamesSo {D} {F} read r = (lists : DeclaredLists) → (logger : LoggerSeen F) →
    (ended : SessionEnded read lists logger r) →
    (own : MainOwn) → (more : List EngineEntry) → ended.own ≡ own.engine ++ more → starts_begun more ≡ [] →
    RecordsFit (clients_declared lists) own r.runs →
    IsTrue (read logger.first).seen.names → (name : List ℕ) → IsInNoRecord r.runs name →
    IsNameKept (session_with read (first_database ended.shared) lists logger r) (read logger.first) (read logger.files) name

-- One fault gives one answer: where the records fit the main thread's own calls up to some point, what they tell of faults and
-- of clashes was each counted for itself.
abbrev pub OneAnswerSo : {D F : Type 0} {g : _} → (read : F → FilesTold) → SessionRecord D g → Type 0
OneAnswerSo {D} {F} read r = (lists : DeclaredLists) → (logger : LoggerSeen F) →
    (ended : SessionEnded read lists logger r) →
    (own : MainOwn) → (more : List EngineEntry) → ended.own ≡ own.engine ++ more →
    RecordsFit (clients_declared lists) own r.runs →
    OneAnswer r.runs (read logger.first) (read logger.files)

-- And none is counted without an answer: where there is one record for each start that the main thread began, each rise of a
-- count is told, but for clashes of next files' names, where a channel has a limit.
abbrev pub RisesToldSo : {D F : Type 0} {g : _} → (read : F → FilesTold) → SessionRecord D g → Type 0
RisesToldSo {D} {F} read r = (lists : DeclaredLists) → (logger : LoggerSeen F) →
    (ended : SessionEnded read lists logger r) →
    (own : MainOwn) → (more : List EngineEntry) → ended.own ≡ own.engine ++ more → starts_begun more ≡ [] →
    RecordsFit (clients_declared lists) own r.runs →
    RisesTold (specs_in logger.slots) r.runs (read logger.first) (read logger.files)

-- The record of a start that was refused fits the main thread's own calls, with the quota of its start, and was refused so.
pub record RefusalSo (c : ClosedSession) (first now : FilesTold) (own : MainOwn) (r : RunRecord) (client : ℕ) (why : Why) : Type 0 where
  pub quota : ℕ
  pub fits : FitsRefused (clients_in c) own (run_of r quota) r
  pub so : IsRefusedRecord c first now r quota client why

-- So it is with each record of a start that was refused, where the records fit the main thread's own calls up to some point.
abbrev pub RefusalsSo : {D F : Type 0} {g : _} → (read : F → FilesTold) → SessionRecord D g → Type 0
RefusalsSo {D} {F} read r = (lists : DeclaredLists) → (logger : LoggerSeen F) →
    (ended : SessionEnded read lists logger r) →
    (own : MainOwn) → (more : List EngineEntry) → ended.own ≡ own.engine ++ more →
    AllByRecursion (FitsRun (clients_declared lists) own) r.runs →
    (number : ℕ) → (record_at : RunRecord) → slice_get r.runs number ≡ Some record_at →
    (client : ℕ) → (why : Why) → record_at.outcome ≡ Refused client why →
    RefusalSo (session_with read (first_database ended.shared) lists logger r)
    (read logger.first) (read logger.files) own record_at client why
