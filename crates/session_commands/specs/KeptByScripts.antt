-- What a whole script keeps of a session.
use Rattle.std.specs.Prelude.{◌≡◌, ◌≢◌, true, ℕ, List, [], Option, None}
use Rattle.std.specs.List.{list_any}
use Rattle.daq_io.specs.Told.{SourceTold}
use Rattle.console.specs.declared.endings.Ending.{Ending}
use Rattle.console.specs.declared.endings.Ending.TheVariants.{Halted}
use Rattle.console.specs.declared.halts.Halt.{Halt}
use Rattle.console.specs.declared.halts.Halt.TheVariants.{NoMemory as no_memory}
use Rattle.console.specs.Closing.{Finished, ended_by}
use Rattle.console.specs.declared.refusals.Refusals.{Refusals}
use Rattle.console.specs.declared.replies.Reply.{Reply}
use Rattle.odb_watch.specs.DatabasePorts.{own_watched}
use Rattle.session_commands.specs.Stages.{SessionStage}
use Rattle.session_commands.specs.ScriptLines.{BreaksScriptLine, ClosesScript, DoesScriptLine, GivesUp, WithdrawsLine}
use Rattle.session_commands.specs.Endings.{NotesFailed, OneReply, asks_files, is_fault}
use Rattle.session_commands.specs.Keeping.{EndsOver, StageKept, StageSaved, StageSpares}
use Rattle.session_commands.specs.KeptDumps.{EachSavesWhole, KeepsDumps}
use Rattle.session_commands.specs.Quotas.{quotas_asked, quotas_so_far}

-- A script of these lines, with these replies, that ended so. The records of an open session's runs fit the main thread's
-- calls, where they did; no run is on; no call on the database removed anything of `/Runinfo`, where none did before; where
-- memory was not wanting each call that asked for the text of the database got it, where each did before; the quotas of the
-- starts that were begun are those that the lines asked for, where the session was opened by one of them; the files of the
-- dumps stay, and each new one has the name of a `save` among the lines; each `save` that was answered so made a file of its
-- name, which was closed whole, with all of the text that the database gave the main thread; and where the files are asked for
-- a fault, one of the replies of the lines that called them is a fault exactly where their count rose; and however it ended,
-- each of these replies that is a fault, or a clash of names, was counted for itself.
pub record KeptByScript (lines : List (List ℕ)) (replies : List Reply) (ending : Ending) (closing : Option Halt)
    (first final : SessionStage) : Type 0 where
  pub kept : StageKept first → StageKept final
  pub over : EndsOver final
  pub spares : StageSpares first → StageSpares final
  pub saved : ended_by ending closing ≢ Halted no_memory → StageSaved first → StageSaved final
  pub quotas : first.runs ≡ None → quotas_so_far final.runs ≡ quotas_asked first.quota lines replies
  pub dumps : KeepsDumps lines first.database.files.seen final.database.files.seen
  pub saves : EachSavesWhole lines replies (own_watched final.database.access) final.database.files.seen.done
  pub faults : first.database.replies ≡ [] → asks_files (ended_by ending closing) ≡ true →
      NotesFailed (list_any is_fault final.database.replies) first.database.files.faults final.database.files.faults
  pub one_reply : first.database.replies ≡ [] →
      OneReply final.database.replies first.database.files final.database.files

-- So does each script that was played to its end.
abbrev pub ScriptsKeep : Type 0
ScriptsKeep = (first final : SessionStage) (ending : Ending) (closing : Option Halt) (source left : SourceTold)
    (told_first told : Option (List ℕ)) (refusals : Refusals) →
    (finished : Finished DoesScriptLine BreaksScriptLine WithdrawsLine ClosesScript GivesUp first ending closing source left told_first told final
    refusals) →
    KeptByScript finished.lines finished.replies ending closing first final
