-- A whole script: what it did, why it ended, and what is kept of its session.
use Rattle.std.specs.Prelude.{◌≡◌, ◌≢◌, ℕ, true, List, [], slice_get, Option, Some, None, IsOk, ⊤}
use Rattle.std.specs.List.{AllByRecursion, list_any}
use Rattle.daq_types.specs.Callers.{main_caller}
use Rattle.daq_types.specs.declared.runs.ChannelState.TheVariants.{Ended}
use Rattle.daq_types.specs.declared.runs.StartOutcome.TheVariants.{Completed, Refused}
use Rattle.daq_types.specs.declared.runs.Why.{Why}
use Rattle.daq_io.specs.declared.objects.Outside.{Outside}
use Rattle.frontend_kit.specs.declared.generator.Generator.{Generator}
use Rattle.odb_commands.specs.declared.dump_replies.FileReply.{FileReply}
use Rattle.odb_watch.specs.DatabasePorts.{DatabaseAccess, own_watched}
use Rattle.daq_session.specs.SessionRows.{session_rows}
use Rattle.odb_watch.specs.Steps.{unwatched}
use Rattle.loggers.specs.LeftNames.{NoneRose}
use Rattle.session_runs.specs.declared.records.ChannelFiles.{ChannelFiles}
use Rattle.session_runs.specs.declared.records.RunRecord.{RunRecord}
use Rattle.daq_members.specs.Members.{MemberTold}
use Rattle.session_setup.specs.Setup.{AreSound}
use Rattle.session_objects.specs.declared.record.SessionRecord.{SessionRecord}
use Rattle.session_runs.specs.KeptRuns.{RunsSeen}
use Rattle.session_runs.specs.RunsFit.{MainOwn}
use Rattle.console.specs.declared.refusals.Refusals.{Refusals}
use Rattle.session_commands.specs.Stages.{SessionStage, first_stage}
use Rattle.session_commands.specs.ScriptLines.{BreaksScriptLine, ClosesScript, DoesScriptLine, GivesUp, WithdrawsLine}
use Rattle.console.specs.declared.endings.Ending.{Ending}
use Rattle.console.specs.declared.halts.Halt.{Halt}
use Rattle.console.specs.Closing.{EndCounts, Finished, ended_by}
use Rattle.session_commands.specs.Endings.{NotesFailed, OneReply, asks_files, is_fault}
use Rattle.session_commands.specs.Keeping.{StageSaved}
use Rattle.session_commands.specs.KeptDumps.{EachSavesWhole, KeepsDumps}
use Rattle.session_commands.specs.Quotas.{quotas_asked, quotas_so_far}
use Rattle.daq_session.specs.declared.ends.ScriptEnd.{ScriptEnd}
use Rattle.daq_session.specs.declared.ends.ScriptEnd.TheVariants.{NoMemory}
use Rattle.daq_session.specs.Endings.{FaultedFile, script_end}
use Rattle.daq_session.specs.Environments.{Environment, OutsideTold, environment}
use Rattle.daq_session.specs.ToldRecords.{RecordTells}

-- the main thread's own calls on the engine, but for its close, and on the database, as a script left its session
abbrev pub main_own : SessionStage → RunsSeen → MainOwn
main_own final last = record { engine = last.main.own; database = own_watched final.database.access }

-- What is kept of a session that was opened, with declarations that are sound: the records of its runs are those that the main
-- thread kept, behind the last of which no run is on; and the record tells all that was called, by whom, and what came of it.
pub record KeepsSession {D F : Type 0} {g : _} (told : MemberTold Generator F) (first_files : F) (final : SessionStage) (run_files : F)
    (r : SessionRecord D g) : Type 0 where
  pub sound : AreSound final.declared
  pub last : RunsSeen
  pub is_open : final.runs ≡ Some last
  pub over : last.on ≡ None
  pub kept : r.runs ≡ last.runs
  pub tells : RecordTells told final.declared (main_own final last) first_files run_files r

-- No session was opened: the run files are what they were; and all calls that were made on the database are the main thread's.
pub record LacksSession {F : Type 0} (first_files : F) (final : SessionStage) (run_files : F) : Type 0 where
  pub closed : final.runs ≡ None
  pub files : run_files ≡ first_files
  pub alone : AllByRecursion (λ call. call.0 ≡ main_caller) final.database.access.seen

-- There is a record exactly where a session was opened.
abbrev pub SessionKept : {D F : Type 0} {g : _} → MemberTold Generator F → (first_files : F) → (final : SessionStage) →
    (run_files : F) → Option (SessionRecord D g) → Type 0
SessionKept told first_files final run_files None = LacksSession first_files final run_files
SessionKept told first_files final run_files (Some r) = KeepsSession told first_files final run_files r

-- Of the runs of a session that came about, each had its dump saved as it was stopped; and where no fault of the run files was
-- counted, each channel ended in them.
pub record RunsEnded {D F : Type 0} {g : _} (told : MemberTold Generator F) (first_files : F) (final : SessionStage) (run_files : F)
    (r : SessionRecord D g) (keeps : KeepsSession told first_files final run_files r) : Type 0 where
  pub saved : (number : ℕ) → (run : RunRecord) → (at : slice_get r.runs number ≡ Some run) → (whole : run.outcome ≡ Completed) →
      IsOk (keeps.tells.runs number run at whole).so.fits.stop.saved
  pub ended : NoneRose (told.read first_files) (told.read run_files) → (number : ℕ) → (run : RunRecord) →
      slice_get r.runs number ≡ Some run → run.outcome ≡ Completed → (place : ℕ) → (files : ChannelFiles) →
      slice_get run.files place ≡ Some files → files.told.state ≡ Ended

-- So it is with the session of which this is kept, if one was opened.
abbrev pub KeptRunsEnded : {D F : Type 0} {g : _} → (told : MemberTold Generator F) → (first_files : F) → (final : SessionStage) →
    (run_files : F) → (kept : Option (SessionRecord D g)) →
    SessionKept told first_files final run_files kept → Type 0
KeptRunsEnded told first_files final run_files None keeps = ⊤
KeptRunsEnded told first_files final run_files (Some r) keeps = RunsEnded told first_files final run_files r keeps

-- Each record of a session is of a start that was begun with the quota that stands at its place among these.
pub record RunsAsked {D F : Type 0} {g : _} (told : MemberTold Generator F) (first_files : F) (final : SessionStage) (run_files : F)
    (asked : List ℕ) (r : SessionRecord D g) (keeps : KeepsSession told first_files final run_files r) : Type 0 where
  pub completed : (number : ℕ) → (run : RunRecord) → (at : slice_get r.runs number ≡ Some run) → (whole : run.outcome ≡ Completed) →
      slice_get asked number ≡ Some (keeps.tells.runs number run at whole).so.quota
  pub refused : (number : ℕ) → (run : RunRecord) → (at : slice_get r.runs number ≡ Some run) → (client : ℕ) → (why : Why) →
      (is : run.outcome ≡ Refused client why) →
      slice_get asked number ≡ Some (keeps.tells.refusals number run at client why is).quota

-- So it is with the session of which this is kept, if one was opened.
abbrev pub KeptRunsAsked : {D F : Type 0} {g : _} → (told : MemberTold Generator F) → (first_files : F) → (final : SessionStage) →
    (run_files : F) → (asked : List ℕ) → (kept : Option (SessionRecord D g)) →
    SessionKept told first_files final run_files kept → Type 0
KeptRunsAsked told first_files final run_files asked None keeps = ⊤
KeptRunsAsked told first_files final run_files asked (Some r) keeps = RunsAsked told first_files final run_files asked r keeps

-- The lines of a script, from the main thread's first access to the database on, and what is behind them.
pub record PlaysLines (access : DatabaseAccess) (before after : Environment) (ending : Ending) (closing : Option Halt)
    (refusals : Refusals) (final : SessionStage) : Type 0 where
  pub finished : Finished DoesScriptLine BreaksScriptLine WithdrawsLine ClosesScript GivesUp
      (first_stage access before.odb_files before.clock) ending closing before.source after.source before.sink.written
      after.sink.written final refusals
  pub counts : EndCounts ending closing before.source.faults after.source.faults before.sink.faults after.sink.faults
  pub odb_files : final.database.files ≡ after.odb_files
  pub clock : final.clock ≡ after.clock

-- A whole script. Its session's database has the run's parameters, and no call was made on it before. Where memory was not wanting,
-- each call of the main thread that asked for the text of the database got it. The starts were begun with the quotas that the lines
-- asked for. The files of the database that were there stay as they were, and each new one has the name of a `save` line; each `save`
-- that was answered so made a file of its name, which was closed whole, with all of the text that the database gave the main thread;
-- and where memory was not wanting and neither source nor sink failed, a line told a fault of these files exactly where their count
-- rose; and, however it ended, each fault and each clash of names that a line told was counted for itself.
pub record PlaysScript (before after : Environment) (end : ScriptEnd) (replies : List (ℕ × FileReply)) (final : SessionStage) : Type 0 where
  pub access : DatabaseAccess
  pub opens : access.database.opened ≡ unwatched session_rows
  pub caller : access.caller ≡ main_caller
  pub unseen : access.seen ≡ []
  pub ending : Ending
  pub closing : Option Halt
  pub refusals : Refusals
  pub lines : PlaysLines access before after ending closing refusals final
  pub faulted : Option (List ℕ)
  pub fault : asks_files (ended_by ending closing) ≡ true →
      FaultedFile before.run_files.faults after.run_files.faults after.run_files.first
      before.odb_files.faults after.odb_files.faults after.odb_files.first faulted
  pub end_is : end ≡ script_end (ended_by ending closing) faulted refusals
  pub replies_are : final.database.replies ≡ replies
  pub saved : end ≢ NoMemory → StageSaved final
  pub quotas : quotas_so_far final.runs ≡ quotas_asked 0 lines.finished.lines lines.finished.replies
  pub dumps : KeepsDumps lines.finished.lines before.odb_files.seen after.odb_files.seen
  pub saves : EachSavesWhole lines.finished.lines lines.finished.replies (own_watched final.database.access) after.odb_files.seen.done
  pub fault_replies : asks_files (ended_by ending closing) ≡ true →
      NotesFailed (list_any is_fault replies) before.odb_files.faults after.odb_files.faults
  pub one_reply : OneReply replies before.odb_files after.odb_files

-- A whole call, from the one outside to the other: a script was played, which told of them what their parts tell, and ended so,
-- with these replies of the lines that called the files of the database; this is what is kept of its session, if it opened one, with
-- the quotas that the lines asked for; and where memory was not wanting, the runs of the session ended.
pub record RunsScript {D S O F E C K : Type 0} {g : _} (told : OutsideTold S O F E C) (before after : Outside S O F E C K)
    (end : ScriptEnd) (replies : List (ℕ × FileReply)) (kept : Option (SessionRecord D g)) : Type 0 where
  pub final : SessionStage
  pub plays : PlaysScript (environment told before) (environment told after) end replies final
  pub keeps : SessionKept told.crew before.run_files final after.run_files kept
  pub asked : KeptRunsAsked told.crew before.run_files final after.run_files
      (quotas_asked 0 plays.lines.finished.lines plays.lines.finished.replies) kept keeps
  pub ended : end ≢ NoMemory → KeptRunsEnded told.crew before.run_files final after.run_files kept keeps
