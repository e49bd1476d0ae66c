-- How the lines of a session's script are played, by where they stand, and by what the main thread has besides its runs.
use Rattle.daq_io.specs.Told.{AheadTold, FilesTold, SinkTold, SourceTold}
use Rattle.std.specs.Prelude.{◌≡◌, ℕ, Bool, List, Option, None}
use Rattle.daq_io.specs.Seen.{Seen}
use Rattle.member_model.specs.RunEngines.{EngineEntry}
use Rattle.odb_watch.specs.DatabasePorts.{DatabaseAccess}
use Rattle.odb_script.specs.Lines.{Reading}
use Rattle.session_runs.specs.declared.records.RunRecord.{RunRecord}
use Rattle.session_setup.specs.declared.declared.DeclaredLists.{DeclaredLists}
use Rattle.session_setup.specs.Setup.{Declared, declared_by}
use Rattle.session_runs.specs.KeptRuns.{RunsSeen}
use Rattle.console.specs.declared.refusals.Refusals.{Refusals}
use Rattle.console.specs.DatabaseStages.{DatabaseStage}
use Rattle.session_commands.specs.Stages.{SessionStage, open_stage, unopened_stage}
use Rattle.session_commands.specs.ScriptLines.{BreaksScriptLine, ClosesScript, DoesScriptLine, GivesUp, opens_session, WithdrawsLine}
use Rattle.console.specs.declared.endings.Ending.{Ending}
use Rattle.console.specs.declared.halts.Halt.{Halt}
use Rattle.console.specs.Playing.{HasLine, OpensAt, Played}
use Rattle.console.specs.Closing.{Finished}
use Rattle.session_commands.specs.declared.script.Script.{Script}
use Rattle.session_commands.specs.declared.side.MainSide.{MainSide}
use Rattle.session_commands.specs.Endings.{closing_calls}
use Rattle.session_commands.specs.Keeping.{KnowsRuns}

-- Stages.

-- What a port to the database, the files of the dumps and a clock tell of themselves.
pub record SideTold (D E C : Type 0) : Type 0 where
  pub access : D → DatabaseAccess
  pub files : E → FilesTold
  pub clock : C → AheadTold

abbrev pub side_told : {D E C : Type 0} → (access : D → DatabaseAccess) → (files : E → FilesTold) → (clock : C → AheadTold) →
    SideTold D E C
side_told access files clock = record { access = access; files = files; clock = clock }

module _ {D E C : Type 0} {d : _} {e : _} (told : SideTold D E C) where
  -- the online database, by what the main thread has
  abbrev pub database_at : MainSide D E C d e → DatabaseStage
  database_at side = record {
    access = told.access side.database.access;
    files = told.files side.database.files;
    replies = side.database.replies.replies;
  }

  -- the stage of a session that is not open, and that of an open one
  abbrev pub stage_unopened : (quota : ℕ) → Declared → MainSide D E C d e → SessionStage
  stage_unopened quota declared side = unopened_stage quota declared (database_at side) (told.clock side.clock)

  abbrev pub stage_open : DeclaredLists → RunsSeen → MainSide D E C d e → SessionStage
  stage_open lists runs side = open_stage (declared_by lists) (database_at side) (told.clock side.clock) runs

-- Lines.

-- Where the lines of a script stand: what its source tells, what was written so far, what its reader has, whether the line
-- that was read is the last, which lines were refused, and how many were answered.
pub record ScriptAt : Type 0 where
  pub source : SourceTold
  pub written : Option (List ℕ)
  pub reading : Reading
  pub last : Bool
  pub refusals : Refusals
  pub number : ℕ

-- the same, in this order
abbrev pub script_at : (source : SourceTold) → (written : Option (List ℕ)) → Reading → (last : Bool) → Refusals → (number : ℕ) → ScriptAt
script_at source written reading last refusals number =
    record { source = source; written = written; reading = reading; last = last; refusals = refusals; number = number }

-- where the lines of a script stand, by what its source and its sink tell
abbrev pub script_point : {S O : Type 0} → (source : S → SourceTold) → (sink : O → SinkTold) → Script S O → ScriptAt
script_point source sink script =
    script_at (source script.src) (sink script.out).written script.line_loop.reader script.line_loop.last script.line_loop.refusals
    script.line_loop.number

-- A script that began so was played to its end.
abbrev pub FinishedAt : (first : SessionStage) (source : SourceTold) (written : Option (List ℕ)) (ending : Ending) (closing : Option Halt)
    (behind : ScriptAt) (final : SessionStage) → Type 0
FinishedAt first source written ending closing behind final =
    Finished DoesScriptLine BreaksScriptLine WithdrawsLine ClosesScript GivesUp first ending closing source behind.source written behind.written
    final behind.refusals

-- From the line that was read on, a script is played to its end, however it began.
abbrev pub FinishesLine : (at behind : ScriptAt) (now final : SessionStage) (ending : Ending) (closing : Option Halt) → Type 0
FinishesLine at behind now final ending closing =
    (first : SessionStage) (source : SourceTold) (written : Option (List ℕ)) →
    HasLine DoesScriptLine BreaksScriptLine first source at.source written at.written at.reading at.last now at.refusals at.number →
    FinishedAt first source written ending closing behind final

-- The same of the first start, which opens the session.
abbrev pub FinishesOpening : (at behind : ScriptAt) (now final : SessionStage) (ending : Ending) (closing : Option Halt) → Type 0
FinishesOpening at behind now final ending closing =
    (first : SessionStage) (source : SourceTold) (written : Option (List ℕ)) →
    OpensAt DoesScriptLine BreaksScriptLine opens_session first source at.source written at.written at.reading at.last now
    at.refusals at.number →
    FinishedAt first source written ending closing behind final

-- Where the lines of a script opened no session, it was played to its end with the last of them.
abbrev pub UnopenedFinish : Type 0
UnopenedFinish = (first now : SessionStage) (ending : Ending) (source left : SourceTold) (told_first told : Option (List ℕ))
    (refusals : Refusals) →
    Played DoesScriptLine BreaksScriptLine WithdrawsLine first ending source left told_first told now refusals → now.runs ≡ None →
    Finished DoesScriptLine BreaksScriptLine WithdrawsLine ClosesScript GivesUp first ending None source left told_first told now refusals

-- An open session was played from the line that opened it to the end of its script, and its engine was closed by the main
-- thread's last call there: these are the records of its runs, and the main thread's own calls on the engine.
pub record PlaysOpen {D E C : Type 0} {d : _} {e : _} (told : SideTold D E C) (lists : DeclaredLists) (runs : RunsSeen)
    (before after : MainSide D E C d e) (at behind : ScriptAt) (ending : Ending) (closing : Option Halt)
    (records : List RunRecord) (own : List EngineEntry) : Type 0 where
  pub last : RunsSeen
  pub records_are : records ≡ last.runs
  pub own_are : own ≡ closing_calls last.main.own
  pub knows : KnowsRuns last
  pub finishes : FinishesLine at behind (stage_open told lists runs before) (stage_open told lists last after) ending closing
