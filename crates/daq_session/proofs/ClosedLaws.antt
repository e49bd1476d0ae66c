-- What is left of a session, closed.
use Rattle.std.proofs.Common.{◌≡◌, ◌≢◌, ℕ, List, ◌∙◌, subst, Option, ap}
use Rattle.frontend_kit.specs.declared.generator.Generator.{Generator}
use Rattle.daq_session.specs.SessionRows.{session_rows}
use Rattle.odb_watch.specs.Steps.{unwatched}
use Rattle.odb_watch.specs.DatabasePorts.{own_watched}
use Rattle.odb_lock.specs.declared.shared.SharedOdb.{SharedOdb}
use Rattle.odb_lock.specs.SharedOdbs.{first_database}
use Rattle.daq_members.specs.Members.{MemberTold}
use Rattle.session_objects.specs.declared.record.SessionRecord.{SessionRecord}
use Rattle.session_objects.specs.Calls.{SessionCalls}
use Rattle.session_objects.specs.Records.{HasCalls, HoldsCalls, HoldsHistories}
use Rattle.session_runs.specs.KeptRuns.{RunsSeen}
use Rattle.session_commands.specs.Stages.{SessionStage}
use Rattle.console.specs.declared.refusals.Refusals.{Refusals}
use Rattle.console.specs.declared.endings.Ending.{Ending}
use Rattle.console.specs.declared.endings.Ending.TheVariants.{Halted}
use Rattle.console.specs.declared.halts.Halt.{Halt}
use Rattle.console.specs.declared.halts.Halt.TheVariants.{NoMemory as no_memory}
use Rattle.console.specs.Closing.{ended_by}
use Rattle.daq_session.specs.declared.ends.ScriptEnd.{ScriptEnd}
use Rattle.daq_session.specs.declared.ends.ScriptEnd.TheVariants.{NoMemory}
use Rattle.daq_session.specs.Endings.{script_end}
use Rattle.daq_session.specs.declared.left.EndedObjects.{EndedObjects}
use Rattle.daq_session.specs.declared.left.LeftBehind.{LeftBehind}
use Rattle.daq_session.specs.declared.left.LeftBehind.TheVariants.{Session, Unopened}
use Rattle.session_commands.specs.Keeping.{EndsOver, MayKeep, StageKept, StageSpares}
use Rattle.daq_session.specs.Played.{IsBack, IsEndedSession, IsSessionRecord, SessionEnds}

module _ {D F : Type 0} {g : _} (told : MemberTold Generator F) (shared : SharedOdb D) (first_files : F) (final : SessionStage) (run_files : F) where
  -- The passes of what a script leaves are back.
  pub is_back : (left : LeftBehind D g) → SessionEnds told shared first_files final run_files left → IsBack shared left
  is_back (Session ended) ends = (_, ends.ends.calls)
  is_back (Unopened passes) ends = (final.database.access.seen, ends.alone)

  -- The record of its objects is that of the session.
  pub recorded : (ended : EndedObjects D g) (r : SessionRecord D g) → first_database shared ≡ unwatched session_rows → StageKept final → EndsOver final → StageSpares final
      → IsEndedSession told shared first_files final run_files ended → HoldsHistories ended.objects shared r
      → ((calls : SessionCalls) → HasCalls calls ended.objects shared ended.passes → HoldsCalls calls ended.objects shared r)
      → r.runs ≡ ended.runs → IsSessionRecord told first_files final run_files r
  recorded ended r rows kept over spares is histories calls runs = record {
    lists = is.lists;
    declared = is.declared;
    sound = is.sound;
    objects = ended.objects;
    are = is.are;
    shared = shared;
    rows = rows;
    last = is.last;
    is_open = is.is_open;
    callers = is.callers;
    fits = subst (λ (runs : Option RunsSeen). MayKeep final.declared (own_watched final.database.access) runs) is.is_open kept;
    over = over is.last is.is_open is.ends.knows;
    spares = spares;
    kept = runs ∙ is.ends.kept;
    caller = is.ends.caller;
    members = is.ends.members;
    are_members = is.ends.are;
    keep = is.ends.keep;
    logger = is.ends.logger;
    has_logger = is.ends.has_logger;
    channels = is.ends.channels;
    first = is.ends.first;
    files = is.ends.files;
    histories = histories;
    calls = calls _ is.ends.calls;
  }

-- a script that did not end for want of memory had lines that did not
pub memory_found : (ending : Ending) (closing : Option Halt) (faulted : Option (List ℕ)) (refusals : Refusals) (end : ScriptEnd) → end ≡ script_end (ended_by ending closing) faulted refusals
    → end ≢ NoMemory → ended_by ending closing ≢ Halted no_memory
memory_found ending closing faulted refusals end is other = λ halted. other (is ∙ ap (λ (e : Ending). script_end e faulted refusals) halted)
