-- No line of a script removes anything of `/Runinfo`, and each that is answered gets the text of the database where it asks for it.
use Rattle.std.proofs.Common.{◌≡◌, ◌≢◌, ℕ, List, Option, Some, None, ap, sym, subst}
use Rattle.std.proofs.Math.Logic.{⊎_elim}
use Rattle.daq_io.specs.Told.{SourceTold}
use Rattle.odb_script.specs.declared.commands.Command.{Command}
use Rattle.odb_script.specs.declared.commands.DatabaseCommand.{DatabaseCommand}
use Rattle.odb_script.specs.Forms.{Read}
use Rattle.odb_commands.specs.WatchSpares.{SparesWatched}
use Rattle.console.specs.declared.replies.Reply.{Reply}
use Rattle.console.specs.declared.refusals.Refusals.{Refusals}
use Rattle.session_runs.specs.declared.replies.RunReply.TheVariants as answer
use Rattle.session_runs.specs.KeptRuns.{RunsSeen}
use Rattle.session_commands.specs.NothingSaid.{NothingSaid, own_point}
use Rattle.session_commands.proofs.WithdrawnLaws.{withdrawn}
use Rattle.session_commands.specs.Stages.{SessionStage}
use Rattle.session_commands.specs.RunLines.{BreaksStart, BreaksStop, ClosesRun, CutsOpening, CutsRun, DoesPause, DoesResume, DoesStart, DoesStop, OpensSession}
use Rattle.session_commands.specs.ScriptLines.{BreaksScriptLine, CallsDatabase, ClosesScript, DoesScriptLine, GivesUp, WithdrawsLine}
use Rattle.console.specs.declared.endings.Ending.{Ending}
use Rattle.console.specs.declared.endings.Ending.TheVariants.{Halted}
use Rattle.console.specs.declared.halts.Halt.{Halt}
use Rattle.console.specs.declared.halts.Halt.TheVariants.{NoMemory}
use Rattle.console.specs.Closing.{Finished, ended_by}
use Rattle.console.proofs.KeepingLaws.{behind_keeps, plays_keep}
use Rattle.session_commands.specs.Keeping.{SavesDump, StageSaved, StageSpares}
use Rattle.session_commands.proofs.AnsweredLaws.{answered_keeps}
use Rattle.session_commands.proofs.CallsOn.{all_on}
use Rattle.session_commands.proofs.LineKinds.{LineCut, CutsCalls, CutsStartLine, CutsStopLine, LineKind, CallsRows, Declares, IsPause, IsResume, IsStart, IsStill, IsStop, SetsQuota, line_cut, line_kind}
use Rattle.session_commands.proofs.SaveLaws.{database_saved, keys_saved}
use Rattle.session_commands.proofs.SpareLaws.{SpareLaws, SparesOn, broken_on, cut_keys_on, cut_on, database_on, keys_on, later_on}
use Rattle.session_commands.proofs.SteeringLaws.{AnsweredOn, later_answered, pause_moves, resume_moves, same_answered, start_moves, stop_moves, unsaved_moves}

-- Stages.

moved : (old new : SessionStage) → SparesOn old.database.access new.database.access → StageSpares old → StageSpares new
moved old new on spares = all_on SparesWatched old.database.access new.database.access on spares

opens_answered : SpareLaws → (old ready : SessionStage) → OpensSession old ready → AnsweredOn old.database.access ready.database.access
opens_answered laws old ready opens = record {
  spares = keys_on laws _ old.database.access ready.database.access opens.keys;
  saved = keys_saved laws _ old.database.access ready.database.access opens.keys;
}

same_stage : (old new : SessionStage) → new ≡ old → AnsweredOn old.database.access new.database.access
same_stage old new same = same_answered old.database.access new.database.access (ap (λ (s : SessionStage). s.database.access) same)

start_line : SpareLaws → (runs : Option RunsSeen) (old : SessionStage) (reply : Reply) (new : SessionStage) → DoesStart runs old reply new → AnsweredOn old.database.access new.database.access
start_line laws None old reply new does = later_answered old.database.access does.0.database.access new.database.access (opens_answered laws old does.0 does.3)
    (start_moves laws NothingSaid does.4.answer does.0.clock new.clock (own_point does.1 does.0.database.access) (own_point does.4.after new.database.access) does.4.does).database
start_line laws (Some runs) old reply new does = (start_moves laws NothingSaid does.answer old.clock new.clock (own_point runs old.database.access) (own_point does.after new.database.access) does.does).database

stop_line : SpareLaws → (runs : Option RunsSeen) (old : SessionStage) (reply : Reply) (new : SessionStage) → DoesStop runs old reply new → AnsweredOn old.database.access new.database.access
stop_line laws None old reply new does = same_stage old new does.1
stop_line laws (Some runs) old reply new does = (stop_moves laws NothingSaid does.answer old.clock new.clock (own_point runs old.database.access) (own_point does.after new.database.access) does.does).database

pause_line : SpareLaws → (runs : Option RunsSeen) (old : SessionStage) (reply : Reply) (new : SessionStage) → DoesPause runs old reply new → AnsweredOn old.database.access new.database.access
pause_line laws None old reply new does = same_stage old new does.1
pause_line laws (Some runs) old reply new does = (pause_moves laws NothingSaid does.answer (own_point runs old.database.access) (own_point does.after new.database.access) does.does.0).database

resume_line : SpareLaws → (runs : Option RunsSeen) (old : SessionStage) (reply : Reply) (new : SessionStage) → DoesResume runs old reply new → AnsweredOn old.database.access new.database.access
resume_line laws None old reply new does = same_stage old new does.1
resume_line laws (Some runs) old reply new does = (resume_moves laws NothingSaid does.answer (own_point runs old.database.access) (own_point does.after new.database.access) does.does.0).database

calls_line : SpareLaws → (number : ℕ) (command : DatabaseCommand) (old : SessionStage) (reply : Reply) (new : SessionStage) → CallsDatabase number command old reply new → AnsweredOn old.database.access new.database.access
calls_line laws number command old reply new does = record {
  spares = database_on laws number command old.database reply new.database does.0;
  saved = database_saved laws number command old.database reply new.database does.0;
}

kind_answered : SpareLaws → (number : ℕ) (line : Read Command) (old : SessionStage) (reply : Reply) (new : SessionStage) → LineKind number line old reply new → AnsweredOn old.database.access new.database.access
kind_answered laws number line old reply new (IsStill same) = same_answered old.database.access new.database.access (ap (λ (s : SessionStage). s.database.access) same)
kind_answered laws number line old reply new (Declares opened same) = same_answered old.database.access new.database.access (ap (λ (s : SessionStage). s.database.access) same)
kind_answered laws number line old reply new (SetsQuota count same) = same_answered old.database.access new.database.access (ap (λ (s : SessionStage). s.database.access) same)
kind_answered laws number line old reply new (IsStart does) = start_line laws old.runs old reply new does
kind_answered laws number line old reply new (IsStop does) = stop_line laws old.runs old reply new does
kind_answered laws number line old reply new (IsPause does) = pause_line laws old.runs old reply new does
kind_answered laws number line old reply new (IsResume does) = resume_line laws old.runs old reply new does
kind_answered laws number line old reply new (CallsRows command is does) = calls_line laws number command old reply new does

pub line_answered : SpareLaws → (number : ℕ) (line : Read Command) (old new : SessionStage) (reply : Reply) → DoesScriptLine number line old reply new → AnsweredOn old.database.access new.database.access
line_answered laws number line old new reply does = kind_answered laws number line old reply new (line_kind number line old reply new does)

-- Where memory ended.

cut_run_on : SpareLaws → (before : RunsSeen) (old new : SessionStage) → CutsRun before old new → SparesOn old.database.access new.database.access
cut_run_on laws before old new cut = cut_on laws old.clock new.clock (own_point before old.database.access) (own_point before new.database.access) cut.cut

start_breaks : SpareLaws → (runs : Option RunsSeen) (old new : SessionStage) → BreaksStart runs old new → SparesOn old.database.access new.database.access
start_breaks laws None old new broke = ⊎_elim
    (λ (cut : CutsOpening old new). cut_keys_on laws _ old.database.access new.database.access cut.keys)
    (λ cut. later_on old.database.access cut.0.database.access new.database.access (opens_answered laws old cut.0 cut.3).spares (cut_run_on laws cut.1 cut.0 new cut.4))
    broke
start_breaks laws (Some runs) old new broke = cut_run_on laws runs old new broke

pub stop_breaks : SpareLaws → (runs : Option RunsSeen) (old new : SessionStage) → BreaksStop runs old new → SparesOn old.database.access new.database.access
stop_breaks laws None old new broke = absurd broke
stop_breaks laws (Some runs) old new broke = ⊎_elim
    (λ stopped. (stop_moves laws NothingSaid (answer.Stopped stopped.0) old.clock new.clock (own_point runs old.database.access) (own_point broke.0 new.database.access) stopped.1).database.spares)
    (λ unsaved. (unsaved_moves laws NothingSaid old.clock new.clock (own_point runs old.database.access) (own_point broke.0 new.database.access) unsaved).spares)
    broke.2

cut_spares : SpareLaws → (old new : SessionStage) → LineCut old new → SparesOn old.database.access new.database.access
cut_spares laws old new (CutsStartLine broke) = start_breaks laws old.runs old new broke
cut_spares laws old new (CutsStopLine broke) = stop_breaks laws old.runs old new broke
cut_spares laws old new (CutsCalls command broke same) = broken_on laws command old.database new.database broke

pub line_breaks : SpareLaws → (number : ℕ) (line : Read Command) (old new : SessionStage) → BreaksScriptLine number line old new → SparesOn old.database.access new.database.access
line_breaks laws number line old new broke = cut_spares laws old new (line_cut number line old new broke)

-- Behind all lines.

pub run_closes : SpareLaws → (runs : Option RunsSeen) (old : SessionStage) (reply : Option Reply) (new : SessionStage) → ClosesRun runs old reply new → AnsweredOn old.database.access new.database.access
run_closes laws None old reply new closed = same_stage old new closed.1
run_closes laws (Some runs) old None new closed = same_stage old new closed.1
run_closes laws (Some runs) old (Some reply) new closed = stop_line laws (Some runs) old reply new closed.1

-- A whole script.
pub script_spares : SpareLaws → (first final : SessionStage) (ending : Ending) (closing : Option Halt) (source left : SourceTold) (told_first told : Option (List ℕ)) (refusals : Refusals)
    → Finished DoesScriptLine BreaksScriptLine WithdrawsLine ClosesScript GivesUp first ending closing source left told_first told final refusals → StageSpares first → StageSpares final
script_spares laws first final ending closing source left told_first told refusals finished spares =
    behind_keeps DoesScriptLine BreaksScriptLine WithdrawsLine ClosesScript GivesUp StageSpares
    (λ number old new withdrew kept. subst StageSpares (sym (withdrawn number old new withdrew)) kept)
    (λ number line old new broke kept. moved old new (line_breaks laws number line old new broke) kept)
    (λ old new reply closed kept. moved old new (run_closes laws old.runs old reply new closed).spares kept)
    (λ old new gave kept. moved old new (stop_breaks laws old.runs old new gave.1) kept)
    first final ending closing source left told_first told refusals finished
    (plays_keep DoesScriptLine BreaksScriptLine WithdrawsLine ClosesScript GivesUp StageSpares (λ number line old new reply does kept. moved old new (line_answered laws number line old new reply does).spares kept) 1 finished.lines finished.replies first finished.between finished.plays spares)

-- One for which memory was not wanting.
pub script_saved : SpareLaws → (first final : SessionStage) (ending : Ending) (closing : Option Halt) (source left : SourceTold) (told_first told : Option (List ℕ)) (refusals : Refusals)
    → Finished DoesScriptLine BreaksScriptLine WithdrawsLine ClosesScript GivesUp first ending closing source left told_first told final refusals
    → ended_by ending closing ≢ Halted NoMemory → StageSaved first → StageSaved final
script_saved laws first final ending closing source left told_first told refusals finished found saved = answered_keeps StageSaved
    (λ number line old new reply does kept. all_on SavesDump old.database.access new.database.access (line_answered laws number line old new reply does).saved kept)
    (λ old new reply closed kept. all_on SavesDump old.database.access new.database.access (run_closes laws old.runs old reply new closed).saved kept)
    first final ending closing source left told_first told refusals finished found saved
