-- What a script came to whose lines are played: why it ended, and the outside as it leaves it.
use Rattle.daq_io.specs.Told.{FilesTold}
use Rattle.std.specs.Prelude.{◌≡◌, ℕ, Bool, true, List, Option}
use Rattle.std.specs.List.{list_any}
use Rattle.daq_io.specs.declared.objects.Outside.{Outside}
use Rattle.odb_commands.specs.declared.dump_replies.FileReply.{FileReply}
use Rattle.console.specs.declared.endings.Ending.{Ending}
use Rattle.console.specs.declared.refusals.Refusals.{Refusals}
use Rattle.console.specs.Closing.{ended_by}
use Rattle.session_commands.specs.Endings.{NotesFailed, asks_files, is_fault}
use Rattle.daq_session.specs.declared.ends.ScriptEnd.{ScriptEnd}
use Rattle.daq_session.specs.declared.played.LinesEnd.{LinesEnd}
use Rattle.daq_session.specs.Endings.{FaultedFile, script_end}

-- Below, `run` and `odb` are the counts of the faults of the run files and of the files of the database before.

-- A call on the run files, and one of the lines that called the files of the database, is noted to have failed exactly where
-- their count rose.
abbrev pub NoteFailed : (failed : Bool) → (replies : List (ℕ × FileReply)) → (run odb : ℕ) → (run_files odb_files : FilesTold) → Type 0
NoteFailed failed replies run odb run_files odb_files =
    NotesFailed failed run run_files.faults × NotesFailed (list_any is_fault replies) odb odb_files.faults

-- this is the file of the first fault, or there was none
abbrev pub IsFaulted : (run odb : ℕ) → (run_files odb_files : FilesTold) → Option (List ℕ) → Type 0
IsFaulted run odb run_files odb_files faulted =
    FaultedFile run run_files.faults run_files.first odb odb_files.faults odb_files.first faulted

-- Where it is noted so, it is the one that is named.
abbrev pub NamesFaulted : (failed : Bool) → (replies : List (ℕ × FileReply)) → (run_files odb_files : FilesTold) → Option (List ℕ) → Type 0
NamesFaulted failed replies run_files odb_files name =
    (run odb : ℕ) → NoteFailed failed replies run odb run_files odb_files → IsFaulted run odb run_files odb_files name

-- The cause of a script that ended so: where it asks for the files, and it is noted so, the file of the first fault is named.
abbrev pub HasCause : (failed : Bool) → (replies : List (ℕ × FileReply)) → (run_files odb_files : FilesTold) → Ending → Refusals →
    ScriptEnd → Type 0
HasCause failed replies run_files odb_files ending refusals end =
    (run odb : ℕ) → (asks_files ending ≡ true → NoteFailed failed replies run odb run_files odb_files) →
    (faulted : Option (List ℕ)) × (asks_files ending ≡ true → IsFaulted run odb run_files odb_files faulted) ×
    (end ≡ script_end ending faulted refusals)

-- so the script ended whose lines came to this
abbrev pub HasEnd : {S O E C F K : Type 0} → (run_told : F → FilesTold) → (odb_told : E → FilesTold) → LinesEnd S O E C F K → ScriptEnd → Type 0
HasEnd run_told odb_told lines end =
    HasCause lines.failed lines.replies.replies (run_told lines.run_files) (odb_told lines.odb_files)
    (ended_by lines.ending lines.closing) lines.script.line_loop.refusals end

-- the outside as the script leaves it
abbrev pub outside_left : {S O E C F K : Type 0} → LinesEnd S O E C F K → Outside S O F E C K
outside_left lines = record {
  src = lines.script.src;
  out = lines.script.out;
  run_files = lines.run_files;
  odb_files = lines.odb_files;
  clock = lines.clock;
  pick = lines.pick;
}
