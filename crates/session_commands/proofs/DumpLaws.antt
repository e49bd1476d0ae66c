-- What a script does to the files of the dumps.
use Rattle.daq_io.specs.Told.{FilesTold, SourceTold}
use Rattle.std.proofs.Common.{◌≡◌, ◌≢◌, ℕ, suc, ◌+◌, List, [], ◌∷◌, length, Option, Some, None, true, false, refl, ap, sym, ◌∙◌, inl, inr, subst, arith}
use Rattle.std.specs.Prelude.{IsTrue, Contains, Ok, nat_eq, ◌⊎◌}
use Rattle.std.proofs.Math.Logic.{⊎_elim}
use Rattle.daq_io.specs.declared.folder.FileState.{FileState}
use Rattle.daq_io.specs.declared.folder.FileState.TheVariants.{Closed}
use Rattle.daq_io.specs.Seen.{GoesOn, KeepsFiles, Seen, Stored, StoresSo, stored_as, was_left}
use Rattle.daq_io.proofs.SeenLaws.{KeepsFiles-trans, name_tells, on_more, on_same, on_then}
use Rattle.odb_commands.specs.declared.dump_replies.FileReply.{FileReply}
use Rattle.odb_commands.specs.declared.dump_replies.FileReply.TheVariants.{Done, Clash, Fault, TooLong as too_large}
use Rattle.odb_commands.specs.WholeFiles.{WritesFile}
use Rattle.odb_watch.specs.declared.entry.WatchEntry.{WatchEntry}
use Rattle.odb_commands.specs.declared.watch_replies.WatchAnswer.{WatchAnswer}
use Rattle.odb_commands.specs.WatchPerforms.{PerformsWatch}
use Rattle.odb_script.specs.declared.commands.Command.{Command}
use Rattle.odb_script.specs.declared.commands.Command.TheVariants.{Database}
use Rattle.odb_script.specs.declared.commands.DatabaseCommand.{DatabaseCommand}
use Rattle.odb_script.specs.declared.commands.DatabaseCommand.TheVariants.{Rows, Watches}
use Rattle.odb_script.specs.declared.commands.WatchCommand.{WatchCommand}
use Rattle.odb_script.specs.declared.commands.WatchCommand.TheVariants.{Load, Save, Watch, Notes, Unwatch}
use Rattle.odb_script.specs.Forms.{Read, command_of, on_watches}
use Rattle.console.specs.declared.replies.Reply.{Reply}
use Rattle.console.specs.declared.refusals.Refusals.{Refusals}
use Rattle.session_runs.specs.KeptRuns.{RunsSeen}
use Rattle.console.specs.DatabaseStages.{DatabaseStage}
use Rattle.console.specs.DatabaseLines.{BreaksDatabase, CutsDump, DoesDatabase}
use Rattle.console.proofs.KeepingLaws.{wrote_keeps}
use Rattle.session_commands.proofs.WithdrawnLaws.{withdrawn}
use Rattle.session_commands.specs.Stages.{SessionStage}
use Rattle.session_commands.specs.RunLines.{BreaksStart, BreaksStop, ClosesRun, CutsOpening, DoesPause, DoesResume, DoesStart, DoesStop}
use Rattle.session_commands.specs.ScriptLines.{BreaksScriptLine, CallsDatabase, ClosesScript, DoesScriptLine, GivesUp, WithdrawsLine}
use Rattle.console.specs.declared.endings.Ending.{Ending}
use Rattle.console.specs.declared.endings.Ending.TheVariants.{End, TooLong as too_long, SourceFault as source_fault, Halted}
use Rattle.console.specs.declared.halts.Halt.{Halt}
use Rattle.console.specs.declared.halts.Halt.TheVariants.{NoMemory as no_memory, SinkFault as sink_fault}
use Rattle.console.specs.Playing.{BreaksAt, CutBy, PlaysFrom, Wrote}
use Rattle.console.specs.Closing.{ClosesBy, Finished, GaveUp, IsClosed}
use Rattle.session_commands.proofs.LineKinds.{LineCut, CutsCalls, CutsStartLine, CutsStopLine, LineKind, CallsRows, Declares, IsPause, IsResume, IsStart, IsStill, IsStop, SetsQuota, line_cut, line_kind}
use Rattle.session_commands.specs.KeptDumps.{IsSavedBy, KeepsDumps}

-- One line.

-- Each file stays, and each new one has the name for which this holds.
record StepsFiles (Saved : List ℕ → Type 0) (old new : Seen) : Type 0 where
  names : new.names ≡ old.names
  on : GoesOn old new
  stay : IsTrue old.names → (name : List ℕ) → (file : Stored) → old.at name ≡ Some file → new.at name ≡ Some file
  added : IsTrue old.names → (name : List ℕ) → (file : Stored) → new.at name ≡ Some file → (old.at name ≡ Some file) ⊎ Saved name

kept_step : (Saved : List ℕ → Type 0) (old new : Seen) → KeepsFiles old new → StepsFiles Saved old new
kept_step Saved old new kept = record {
  names = kept.names;
  on = on_same kept.done;
  stay = λ tells name file at. kept.at name ∙ at;
  added = λ tells name file at. inl (sym (kept.at name) ∙ at);
}

same_step : (Saved : List ℕ → Type 0) (old new : Seen) → new ≡ old → StepsFiles Saved old new
same_step Saved old new same = kept_step Saved old new (record { names = ap (λ (s : Seen). s.names) same; at = λ name. ap (λ (s : Seen). s.at name) same; done = ap (λ (s : Seen). s.done) same })

stored_step : (Saved : List ℕ → Type 0) (old new : Seen) (saved : List ℕ) (state : FileState) (bytes : List ℕ) → Saved saved → StoresSo old new saved state bytes → StepsFiles Saved old new
stored_step Saved old new saved state bytes is stores = record {
  names = stores.touches.names;
  on = on_more (was_left saved (stored_as state stores.has) ∷ []) stores.done;
  stay = λ tells name file at.
      stores.touches.others name (λ same. cc (sym at ∙ (ap old.at same ∙ stores.fresh tells))) ∙ at;
  added = λ tells name file at. ⊎_elim
      (λ (same : name ≡ saved). inr (subst Saved (sym same) is))
      (λ (other : name ≢ saved). inl (sym (stores.touches.others name other) ∙ at))
      (name_tells name saved);
}

written_step : (Saved : List ℕ → Type 0) (old new : Seen) (saved text : List ℕ) (came : FileReply) → Saved saved → WritesFile old new saved text came → StepsFiles Saved old new
written_step Saved old new saved text Done is writes = stored_step Saved old new saved Closed text is writes.so
written_step Saved old new saved text Clash is writes = kept_step Saved old new writes.0.files
written_step Saved old new saved text Fault is writes = ⊎_elim
    (λ kept. kept_step Saved old new kept.0.files)
    (λ cut. stored_step Saved old new saved cut.1 _ is cut.2)
    writes
written_step Saved old new saved text too_large is writes = absurd writes

-- the command saves the database into a file of this name
abbrev Saves : DatabaseCommand → List ℕ → Type 0
Saves command name = command ≡ Watches (Save name)

performed_step : (command : WatchCommand) (old new : Seen) (calls : List WatchEntry) (answer : WatchAnswer) → PerformsWatch command old new calls answer → StepsFiles (Saves (Watches command)) old new
performed_step (Load name) old new calls answer does = ⊎_elim
    (λ none. same_step (Saves (Watches (Load name))) old new none.1)
    (λ loads. kept_step (Saves (Watches (Load name))) old new loads.1.1.files)
    does
performed_step (Save name) old new calls answer does = ⊎_elim
    (λ none. same_step (Saves (Watches (Save name))) old new none.1)
    (λ saves. written_step (Saves (Watches (Save name))) old new name saves.1.0 saves.1.1 refl saves.1.3)
    does
performed_step (Watch path) old new calls answer does = same_step (Saves (Watches (Watch path))) old new does.0
performed_step (Notes watch) old new calls answer does = same_step (Saves (Watches (Notes watch))) old new does.0
performed_step (Unwatch watch) old new calls answer does = same_step (Saves (Watches (Unwatch watch))) old new does.0

-- what the files of the dumps tell in a stage
abbrev pub files_seen : SessionStage → Seen
files_seen s = s.database.files.seen

told_files : (old new : FilesTold) → new ≡ old → KeepsFiles old.seen new.seen
told_files old new same = record { names = ap (λ (f : FilesTold). f.seen.names) same; at = λ name. ap (λ (f : FilesTold). f.seen.at name) same; done = ap (λ (f : FilesTold). f.seen.done) same }

same_files : (old new : SessionStage) → new.database.files ≡ old.database.files → KeepsFiles (files_seen old) (files_seen new)
same_files old new same = told_files old.database.files new.database.files same

database_step : (number : ℕ) (command : DatabaseCommand) (old : DatabaseStage) (reply : Reply) (new : DatabaseStage) → DoesDatabase number command old reply new → StepsFiles (Saves command) old.files.seen new.files.seen
database_step number (Rows command) old reply new does = same_step (Saves (Rows command)) old.files.seen new.files.seen (ap (λ (f : FilesTold). f.seen) does.files)
database_step number (Watches command) old reply new does = performed_step command old.files.seen new.files.seen does.answers.calls does.answer does.answers.does

stage_step : (Saved : List ℕ → Type 0) (old new : SessionStage) → new.database.files ≡ old.database.files → StepsFiles Saved (files_seen old) (files_seen new)
stage_step Saved old new same = same_step Saved (files_seen old) (files_seen new) (ap (λ (f : FilesTold). f.seen) same)

start_files : (runs : Option RunsSeen) (old : SessionStage) (reply : Reply) (new : SessionStage) → DoesStart runs old reply new → new.database.files ≡ old.database.files
start_files None old reply new does = does.4.files ∙ does.3.files
start_files (Some runs) old reply new does = does.files

stop_files : (runs : Option RunsSeen) (old : SessionStage) (reply : Reply) (new : SessionStage) → DoesStop runs old reply new → new.database.files ≡ old.database.files
stop_files None old reply new does = ap (λ (s : SessionStage). s.database.files) does.1
stop_files (Some runs) old reply new does = does.files

pause_files : (runs : Option RunsSeen) (old : SessionStage) (reply : Reply) (new : SessionStage) → DoesPause runs old reply new → new.database.files ≡ old.database.files
pause_files None old reply new does = ap (λ (s : SessionStage). s.database.files) does.1
pause_files (Some runs) old reply new does = does.files

resume_files : (runs : Option RunsSeen) (old : SessionStage) (reply : Reply) (new : SessionStage) → DoesResume runs old reply new → new.database.files ≡ old.database.files
resume_files None old reply new does = ap (λ (s : SessionStage). s.database.files) does.1
resume_files (Some runs) old reply new does = does.files

-- the line was read as a `save` of this name
abbrev SavesLine : Read Command → List ℕ → Type 0
SavesLine line name = line ≡ Ok (on_watches (Save name))

calls_step : (number : ℕ) (line : Read Command) (command : DatabaseCommand) (old : SessionStage) (reply : Reply) (new : SessionStage) → line ≡ Ok (Database command) → CallsDatabase number command old reply new → StepsFiles (SavesLine line) (files_seen old) (files_seen new)
calls_step number line command old reply new is does =
    let step = database_step number command old.database reply new.database does.0 in
    record {
      names = step.names;
      on = step.on;
      stay = step.stay;
      added = λ tells name file at. ⊎_elim
          (λ (there : (files_seen old).at name ≡ Some file). inl there)
          (λ (saves : command ≡ Watches (Save name)). inr (is ∙ ap (λ (c : DatabaseCommand). Ok (Database c)) saves))
          (step.added tells name file at);
    }

kind_step : (number : ℕ) (line : Read Command) (old : SessionStage) (reply : Reply) (new : SessionStage) → LineKind number line old reply new → StepsFiles (SavesLine line) (files_seen old) (files_seen new)
kind_step number line old reply new (IsStill same) = stage_step (SavesLine line) old new (ap (λ (s : SessionStage). s.database.files) same)
kind_step number line old reply new (Declares opened same) = stage_step (SavesLine line) old new (ap (λ (s : SessionStage). s.database.files) same)
kind_step number line old reply new (SetsQuota count same) = stage_step (SavesLine line) old new (ap (λ (s : SessionStage). s.database.files) same)
kind_step number line old reply new (IsStart does) = stage_step (SavesLine line) old new (start_files old.runs old reply new does)
kind_step number line old reply new (IsStop does) = stage_step (SavesLine line) old new (stop_files old.runs old reply new does)
kind_step number line old reply new (IsPause does) = stage_step (SavesLine line) old new (pause_files old.runs old reply new does)
kind_step number line old reply new (IsResume does) = stage_step (SavesLine line) old new (resume_files old.runs old reply new does)
kind_step number line old reply new (CallsRows command is does) = calls_step number line command old reply new is does

line_step : (number : ℕ) (line : Read Command) (old : SessionStage) (reply : Reply) (new : SessionStage) → DoesScriptLine number line old reply new → StepsFiles (SavesLine line) (files_seen old) (files_seen new)
line_step number line old reply new does = kind_step number line old reply new (line_kind number line old reply new does)

pub line_goes_on : (number : ℕ) (line : Read Command) (old : SessionStage) (reply : Reply) (new : SessionStage) → DoesScriptLine number line old reply new → GoesOn (files_seen old) (files_seen new)
line_goes_on number line old reply new does = (line_step number line old reply new does).on

-- All lines.

first_contained : {X : Type 0} (x : X) (xs : List X) → Contains (x ∷ xs) x
first_contained x xs = (0, omega arith, refl)

later_contained : {X : Type 0} (y : X) (xs : List X) (x : X) → Contains xs x → Contains (y ∷ xs) x
later_contained y xs x has = (suc has.0, omega (arith, has.1), has.2)

none_keep : (lines : List (List ℕ)) (old new : Seen) → KeepsFiles old new → KeepsDumps lines old new
none_keep lines old new kept = record {
  names = kept.names;
  on = on_same kept.done;
  stay = λ tells name file at. kept.at name ∙ at;
  added = λ tells name file at. inl (sym (kept.at name) ∙ at);
}

one_more : (line : List ℕ) (lines : List (List ℕ)) (old between new : Seen) → StepsFiles (SavesLine (command_of line)) old between → KeepsDumps lines between new → KeepsDumps (line ∷ lines) old new
one_more line lines old between new step keeps = record {
  names = keeps.names ∙ step.names;
  on = on_then step.on keeps.on;
  stay = λ tells name file at. keeps.stay (subst IsTrue (sym step.names) tells) name file (step.stay tells name file at);
  added = λ tells name file at. ⊎_elim
      (λ (there : between.at name ≡ Some file). ⊎_elim
      (λ (was : old.at name ≡ Some file). inl was)
      (λ (saves : command_of line ≡ Ok (on_watches (Save name))). inr (line, first_contained line lines, saves))
      (step.added tells name file there))
      (λ (saved : IsSavedBy lines name). inr (saved.0, later_contained line lines saved.0 saved.1, saved.2))
      (keeps.added (subst IsTrue (sym step.names) tells) name file at);
}

lines_keep : (number : ℕ) (lines : List (List ℕ)) (replies : List Reply) (old new : SessionStage) → PlaysFrom DoesScriptLine number lines replies old new → KeepsDumps lines (files_seen old) (files_seen new)
lines_keep number [] [] old new plays = none_keep [] (files_seen old) (files_seen new) (same_files old new (ap (λ (s : SessionStage). s.database.files) plays))
lines_keep number [] (reply ∷ replies) old new plays = absurd plays
lines_keep number (line ∷ lines) [] old new plays = absurd plays
lines_keep number (line ∷ lines) (reply ∷ replies) old new plays =
    one_more line lines (files_seen old) (files_seen plays.0) (files_seen new) (line_step number (command_of line) old reply plays.0 plays.1)
    (lines_keep (number + 1) lines replies plays.0 new plays.2)

-- Where memory ended no file changed, nor behind the lines.

database_cut : (command : DatabaseCommand) (old new : DatabaseStage) → BreaksDatabase command old new → KeepsFiles old.files.seen new.files.seen
database_cut (Rows command) old new broke = told_files old.files new.files broke.files
database_cut (Watches command) old new broke = ⊎_elim
    (λ (same : new ≡ old). told_files old.files new.files (ap (λ (d : DatabaseStage). d.files) same))
    (λ (cut : CutsDump command old new). cut.kept.files)
    broke

start_cut : (runs : Option RunsSeen) (old new : SessionStage) → BreaksStart runs old new → new.database.files ≡ old.database.files
start_cut None old new broke = ⊎_elim
    (λ (cut : CutsOpening old new). ap (λ (s : SessionStage). s.database.files) cut.same)
    (λ cut. ap (λ (s : SessionStage). s.database.files) cut.4.same ∙ cut.3.files)
    broke
start_cut (Some runs) old new broke = ap (λ (s : SessionStage). s.database.files) broke.same

stop_cut : (runs : Option RunsSeen) (old new : SessionStage) → BreaksStop runs old new → new.database.files ≡ old.database.files
stop_cut None old new broke = absurd broke
stop_cut (Some runs) old new broke = ap (λ (s : SessionStage). s.database.files) broke.1

cut_files : (old new : SessionStage) → LineCut old new → KeepsFiles (files_seen old) (files_seen new)
cut_files old new (CutsStartLine broke) = same_files old new (start_cut old.runs old new broke)
cut_files old new (CutsStopLine broke) = same_files old new (stop_cut old.runs old new broke)
cut_files old new (CutsCalls command broke same) = database_cut command old.database new.database broke

pub cut_goes_on : (number : ℕ) (line : Read Command) (old new : SessionStage) → BreaksScriptLine number line old new → GoesOn (files_seen old) (files_seen new)
cut_goes_on number line old new broke = on_same (cut_files old new (line_cut number line old new broke)).done

cut_keeps : (ending : Ending) (source left : SourceTold) (lines : List (List ℕ)) (old new : SessionStage) → CutBy DoesScriptLine BreaksScriptLine ending source left lines old new → KeepsFiles (files_seen old) (files_seen new)
cut_keeps End source left lines old new same = same_files old new (ap (λ (s : SessionStage). s.database.files) same)
cut_keeps too_long source left lines old new same = same_files old new (ap (λ (s : SessionStage). s.database.files) same)
cut_keeps source_fault source left lines old new same = same_files old new (ap (λ (s : SessionStage). s.database.files) same)
cut_keeps (Halted sink_fault) source left lines old new same = same_files old new (ap (λ (s : SessionStage). s.database.files) same)
cut_keeps (Halted no_memory) source left lines old new cut = ⊎_elim
    (λ (same : new ≡ old). same_files old new (ap (λ (s : SessionStage). s.database.files) same))
    (λ (at : BreaksAt DoesScriptLine BreaksScriptLine source left lines old new). cut_files old new (line_cut (1 + length lines) (command_of at.line) old new at.broke))
    cut

-- nor where what was noted of a line is taken out again
noted_keeps : (ending : Ending) (told_first told_now : Option (List ℕ)) (replies : List Reply) (old new : SessionStage) → Wrote WithdrawsLine ending told_first told_now replies old new → KeepsFiles (files_seen old) (files_seen new)
noted_keeps ending told_first told_now replies old new wrote =
    wrote_keeps DoesScriptLine BreaksScriptLine WithdrawsLine ClosesScript GivesUp (λ (s : SessionStage). KeepsFiles (files_seen old) (files_seen s))
    (λ number was now withdrew kept. KeepsFiles-trans kept (same_files was now (ap (λ (s : SessionStage). s.database.files) (withdrawn number was now withdrew))))
    ending told_first told_now replies old new wrote (same_files old old refl)

run_closed : (runs : Option RunsSeen) (old : SessionStage) (reply : Option Reply) (new : SessionStage) → ClosesRun runs old reply new → new.database.files ≡ old.database.files
run_closed None old reply new closed = ap (λ (s : SessionStage). s.database.files) closed.1
run_closed (Some runs) old None new closed = ap (λ (s : SessionStage). s.database.files) closed.1
run_closed (Some runs) old (Some reply) new closed = closed.1.files

pub closed_goes_on : (old : SessionStage) (reply : Option Reply) (new : SessionStage) → ClosesScript old reply new → GoesOn (files_seen old) (files_seen new)
closed_goes_on old reply new closed = on_same (same_files old new (run_closed old.runs old reply new closed)).done

pub given_up_goes_on : (old new : SessionStage) → GivesUp old new → GoesOn (files_seen old) (files_seen new)
given_up_goes_on old new gave = on_same (same_files old new (stop_cut old.runs old new gave.1)).done

closing_keeps : (closing : Option Halt) (behind : List Reply) (old new : SessionStage) → ClosesBy ClosesScript GivesUp closing behind old new → KeepsFiles (files_seen old) (files_seen new)
closing_keeps closing behind old new by = ⊎_elim
    (λ (is : IsClosed ClosesScript GivesUp behind old new). same_files old new (run_closed old.runs old is.reply new is.closed))
    (λ (gave : GaveUp ClosesScript GivesUp closing behind old new). same_files old new (stop_cut old.runs old new gave.gave_up.1))
    by

kept_behind : (lines : List (List ℕ)) (a b c : Seen) → KeepsDumps lines a b → KeepsFiles b c → KeepsDumps lines a c
kept_behind lines a b c keeps files = record {
  names = files.names ∙ keeps.names;
  on = on_then keeps.on (on_same files.done);
  stay = λ tells name file at. files.at name ∙ keeps.stay tells name file at;
  added = λ tells name file at. keeps.added tells name file (sym (files.at name) ∙ at);
}

-- A whole script.
pub script_keeps : (first final : SessionStage) (ending : Ending) (closing : Option Halt) (source left : SourceTold) (told_first told : Option (List ℕ)) (refusals : Refusals)
    → (finished : Finished DoesScriptLine BreaksScriptLine WithdrawsLine ClosesScript GivesUp first ending closing source left told_first told final refusals)
    → KeepsDumps finished.lines first.database.files.seen final.database.files.seen
script_keeps first final ending closing source left told_first told refusals finished =
    kept_behind finished.lines (files_seen first) (files_seen finished.between) (files_seen final)
    (lines_keep 1 finished.lines finished.replies first finished.between finished.plays)
    (KeepsFiles-trans
    (noted_keeps ending told_first finished.told_lines finished.replies finished.between finished.noted finished.wrote_lines)
    (KeepsFiles-trans
    (cut_keeps ending source left finished.lines finished.noted finished.cut finished.is_cut)
    (closing_keeps closing finished.behind finished.cut final finished.closed)))
