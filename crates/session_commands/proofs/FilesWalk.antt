-- What the lines of a script keep of the files of the dumps and of what came of the lines that called them, by one walk over the
-- lines: it is kept by a line that called the files or did not, and maybe where memory ended in one.
use Rattle.daq_io.specs.Told.{FilesTold}
use Rattle.std.proofs.Common.{◌≡◌, ℕ, List, Option, Some, None, ap, sym, ◌∙◌, subst}
use Rattle.std.specs.Prelude.{◌++◌}
use Rattle.std.proofs.Math.Logic.{⊎_elim}
use Rattle.odb_commands.specs.declared.dump_replies.FileReply.{FileReply}
use Rattle.odb_commands.specs.WatchCalls.{ClashesIf, FaultsIf}
use Rattle.odb_script.specs.declared.commands.Command.{Command}
use Rattle.odb_script.specs.declared.commands.DatabaseCommand.{DatabaseCommand}
use Rattle.odb_script.specs.declared.commands.DatabaseCommand.TheVariants.{Rows, Watches}
use Rattle.odb_script.specs.Forms.{Read}
use Rattle.console.specs.declared.replies.Reply.{Reply}
use Rattle.session_runs.specs.declared.replies.RunReply.{RunReply}
use Rattle.session_runs.specs.KeptRuns.{RunsSeen}
use Rattle.console.specs.DatabaseStages.{DatabaseStage}
use Rattle.console.specs.DatabaseLines.{BreaksDatabase, CutsDump, DoesDatabase, file_replied}
use Rattle.session_commands.specs.Stages.{SessionStage}
use Rattle.session_commands.specs.RunLines.{BreaksStart, BreaksStop, ClosesRun, CutsOpening, DoesPause, DoesResume, DoesStart, DoesStop, PausesBy, ResumesBy, RunsCommand, StartsBy, StopsBy}
use Rattle.session_commands.specs.ScriptLines.{BreaksScriptLine, ClosesScript, DoesScriptLine, GivesUp}
use Rattle.session_commands.proofs.LineKinds.{LineCut, CutsCalls, CutsStartLine, CutsStopLine, LineKind, CallsRows, Declares, IsPause, IsResume, IsStart, IsStill, IsStop, SetsQuota, line_cut, line_kind}

module _ (Kept : List (ℕ × FileReply) → FilesTold → Type 0) where
  -- what came so far of the lines, and what the files count
  abbrev pub FilesKept : SessionStage → Type 0
  FilesKept s = Kept s.database.replies s.database.files

  -- a line keeps it that called the files, with what came of that, or did not
  abbrev pub KeptByLine : Type 0
  KeptByLine = (came : Option FileReply) → (number : ℕ) → (replies : List (ℕ × FileReply)) → (old new : FilesTold) → FaultsIf came old.faults new.faults → ClashesIf came old.clashes new.clashes → Kept replies old
      → Kept (replies ++ file_replied number came) new

  -- and it is kept where memory ended in one
  abbrev pub KeptByCut : Type 0
  KeptByCut = (replies : List (ℕ × FileReply)) → (old new : FilesTold) → new.faults ≡ old.faults → new.clashes ≡ old.clashes → Kept replies old → Kept replies new

  same_kept : (old new : DatabaseStage) → new.files ≡ old.files → new.replies ≡ old.replies → Kept old.replies old.files → Kept new.replies new.files
  same_kept old new files replies kept = subst (λ (came : List (ℕ × FileReply)). Kept came new.files) (sym replies) (subst (λ (f : FilesTold). Kept old.replies f) (sym files) kept)

  -- Commands of runs, which call no file.

  runs_kept : (Does : RunReply → (old new : SessionStage) → (before after : RunsSeen) → Type 0) (before : RunsSeen) (old : SessionStage) (reply : Reply) (new : SessionStage) → RunsCommand Does before old reply new → FilesKept old → FilesKept new
  runs_kept Does before old reply new c kept = same_kept old.database new.database c.files c.replies kept

  start_kept : (runs : Option RunsSeen) (old : SessionStage) (reply : Reply) (new : SessionStage) → DoesStart runs old reply new → FilesKept old → FilesKept new
  start_kept None old reply new does kept = runs_kept StartsBy does.1 does.0 reply new does.4 (same_kept old.database does.0.database does.3.files does.3.replies kept)
  start_kept (Some runs) old reply new does kept = runs_kept StartsBy runs old reply new does kept

  stop_kept : (runs : Option RunsSeen) (old : SessionStage) (reply : Reply) (new : SessionStage) → DoesStop runs old reply new → FilesKept old → FilesKept new
  stop_kept None old reply new does kept = subst FilesKept (sym does.1) kept
  stop_kept (Some runs) old reply new does kept = runs_kept StopsBy runs old reply new does kept

  pause_kept : (runs : Option RunsSeen) (old : SessionStage) (reply : Reply) (new : SessionStage) → DoesPause runs old reply new → FilesKept old → FilesKept new
  pause_kept None old reply new does kept = subst FilesKept (sym does.1) kept
  pause_kept (Some runs) old reply new does kept = runs_kept PausesBy runs old reply new does kept

  resume_kept : (runs : Option RunsSeen) (old : SessionStage) (reply : Reply) (new : SessionStage) → DoesResume runs old reply new → FilesKept old → FilesKept new
  resume_kept None old reply new does kept = subst FilesKept (sym does.1) kept
  resume_kept (Some runs) old reply new does kept = runs_kept ResumesBy runs old reply new does kept

  -- Behind all lines.

  run_closed : (runs : Option RunsSeen) (old : SessionStage) (reply : Option Reply) (new : SessionStage) → ClosesRun runs old reply new → FilesKept old → FilesKept new
  run_closed None old reply new closed kept = subst FilesKept (sym closed.1) kept
  run_closed (Some runs) old None new closed kept = subst FilesKept (sym closed.1) kept
  run_closed (Some runs) old (Some reply) new closed kept = runs_kept StopsBy runs old reply new closed.1 kept

  pub closed_kept : (old new : SessionStage) (reply : Option Reply) → ClosesScript old reply new → FilesKept old → FilesKept new
  closed_kept old new reply closed kept = run_closed old.runs old reply new closed kept

  stop_cut : (runs : Option RunsSeen) (old new : SessionStage) → BreaksStop runs old new → FilesKept old → FilesKept new
  stop_cut None old new broke kept = absurd broke
  stop_cut (Some runs) old new broke kept = same_kept old.database new.database (ap (λ (s : SessionStage). s.database.files) broke.1) (ap (λ (s : SessionStage). s.database.replies) broke.1) kept

  pub given_up_kept : (old new : SessionStage) → GivesUp old new → FilesKept old → FilesKept new
  given_up_kept old new gave kept = stop_cut old.runs old new gave.1 kept

  -- Lines.

  module _ (more : KeptByLine) where
    database_kept : (number : ℕ) (command : DatabaseCommand) (old : DatabaseStage) (reply : Reply) (new : DatabaseStage) → DoesDatabase number command old reply new → Kept old.replies old.files → Kept new.replies new.files
    database_kept number (Rows command) old reply new does kept = same_kept old new does.files does.replies kept
    database_kept number (Watches command) old reply new does kept =
        subst (λ (came : List (ℕ × FileReply)). Kept came new.files) (sym does.replies) (more does.answer.file number old.replies old.files new.files does.faults does.clashes kept)

    kind_kept : (number : ℕ) (line : Read Command) (old : SessionStage) (reply : Reply) (new : SessionStage) → LineKind number line old reply new → FilesKept old → FilesKept new
    kind_kept number line old reply new (IsStill same) kept = subst FilesKept (sym same) kept
    kind_kept number line old reply new (Declares opened same) kept = subst FilesKept (sym same) kept
    kind_kept number line old reply new (SetsQuota count same) kept = subst FilesKept (sym same) kept
    kind_kept number line old reply new (IsStart does) kept = start_kept old.runs old reply new does kept
    kind_kept number line old reply new (IsStop does) kept = stop_kept old.runs old reply new does kept
    kind_kept number line old reply new (IsPause does) kept = pause_kept old.runs old reply new does kept
    kind_kept number line old reply new (IsResume does) kept = resume_kept old.runs old reply new does kept
    kind_kept number line old reply new (CallsRows command is does) kept = database_kept number command old.database reply new.database does.0 kept

    pub line_kept : (number : ℕ) (line : Read Command) (old new : SessionStage) (reply : Reply) → DoesScriptLine number line old reply new → FilesKept old → FilesKept new
    line_kept number line old new reply does kept = kind_kept number line old reply new (line_kind number line old reply new does) kept

  -- Where memory ended.

  module _ (cut : KeptByCut) where
    database_cut : (command : DatabaseCommand) (old new : DatabaseStage) → BreaksDatabase command old new → Kept old.replies old.files → Kept new.replies new.files
    database_cut (Rows command) old new broke kept = same_kept old new broke.files broke.replies kept
    database_cut (Watches command) old new broke kept = ⊎_elim
        (λ (same : new ≡ old). subst (λ (d : DatabaseStage). Kept d.replies d.files) (sym same) kept)
        (λ (dump : CutsDump command old new).
        subst (λ (came : List (ℕ × FileReply)). Kept came new.files) (sym dump.replies) (cut old.replies old.files new.files dump.faults dump.clashes kept))
        broke

    start_cut : (runs : Option RunsSeen) (old new : SessionStage) → BreaksStart runs old new → FilesKept old → FilesKept new
    start_cut None old new broke kept = ⊎_elim
        (λ (opening : CutsOpening old new). same_kept old.database new.database (ap (λ (s : SessionStage). s.database.files) opening.same) (ap (λ (s : SessionStage). s.database.replies) opening.same) kept)
        (λ run. same_kept old.database new.database (ap (λ (s : SessionStage). s.database.files) run.4.same ∙ run.3.files) (ap (λ (s : SessionStage). s.database.replies) run.4.same ∙ run.3.replies) kept)
        broke
    start_cut (Some runs) old new broke kept = same_kept old.database new.database (ap (λ (s : SessionStage). s.database.files) broke.same) (ap (λ (s : SessionStage). s.database.replies) broke.same) kept

    kind_cut : (old new : SessionStage) → LineCut old new → FilesKept old → FilesKept new
    kind_cut old new (CutsStartLine broke) kept = start_cut old.runs old new broke kept
    kind_cut old new (CutsStopLine broke) kept = stop_cut old.runs old new broke kept
    kind_cut old new (CutsCalls command broke same) kept = database_cut command old.database new.database broke kept

    pub break_kept : (number : ℕ) (line : Read Command) (old new : SessionStage) → BreaksScriptLine number line old new → FilesKept old → FilesKept new
    break_kept number line old new broke kept = kind_cut old new (line_cut number line old new broke) kept
