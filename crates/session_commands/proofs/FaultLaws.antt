-- The faults of the files of the dumps against what came of the lines that called them.
use Rattle.daq_io.specs.Told.{FilesTold, SourceTold}
use Rattle.std.proofs.Common.{◌≡◌, ◌≢◌, ℕ, List, [], Option, Some, None, true, false, refl, ap, sym, ◌∙◌, subst, arith}
use Rattle.std.specs.Prelude.{Bool, ◌||◌}
use Rattle.std.specs.List.{list_any}
use Rattle.std.proofs.lemmas.List.Folds.{list_any-append}
use Rattle.daq_io.specs.Counts.{Rose}
use Rattle.odb_commands.specs.declared.dump_replies.FileReply.{FileReply}
use Rattle.odb_commands.specs.declared.dump_replies.FileReply.TheVariants as file
use Rattle.odb_commands.specs.WatchCalls.{FaultsIf}
use Rattle.console.specs.declared.refusals.Refusals.{Refusals}
use Rattle.console.specs.DatabaseLines.{file_replied}
use Rattle.session_commands.specs.Stages.{SessionStage}
use Rattle.session_commands.specs.ScriptLines.{BreaksScriptLine, ClosesScript, DoesScriptLine, GivesUp, WithdrawsLine}
use Rattle.console.specs.declared.endings.Ending.{Ending}
use Rattle.console.specs.declared.endings.Ending.TheVariants.{Halted}
use Rattle.console.specs.declared.halts.Halt.{Halt}
use Rattle.console.specs.declared.halts.Halt.TheVariants.{NoMemory as no_memory}
use Rattle.console.specs.Closing.{Finished, ended_by}
use Rattle.session_commands.proofs.AnsweredLaws.{answered_keeps}
use Rattle.session_commands.proofs.FilesWalk.{FilesKept, KeptByLine, closed_kept, line_kept}
use Rattle.session_commands.specs.Endings.{NotesFailed, asks_files, is_fault}

-- A fault is among these where the count rose, and else the count is what it was.
abbrev pub Tells : (any : Bool) → (old new : ℕ) → Type 0
Tells true old new = Rose old new
Tells false old new = new ≡ old

-- So it is of what came of the lines so far.
abbrev Told : (first : ℕ) → List (ℕ × FileReply) → FilesTold → Type 0
Told first came files = Tells (list_any is_fault came) first files.faults

stays_told : (any : Bool) (first old new : ℕ) → new ≡ old → Tells any first old → Tells any first new
stays_told any first old new same told = subst (λ (n : ℕ). Tells any first n) (sym same) told

rose_on : (first old new : ℕ) → Rose first old → Rose old new → Rose first new
rose_on first old new before rose = omega (arith, before, rose)

-- one line more
told_more : (came : Option FileReply) (number : ℕ) (any : Bool) (first old new : ℕ) → FaultsIf came old new → Tells any first old → Tells (any || list_any is_fault (file_replied number came)) first new
told_more None number true first old new same told = stays_told true first old new same told
told_more None number false first old new same told = stays_told false first old new same told
told_more (Some file.Done) number true first old new same told = stays_told true first old new same told
told_more (Some file.Done) number false first old new same told = stays_told false first old new same told
told_more (Some file.Clash) number true first old new same told = stays_told true first old new same told
told_more (Some file.Clash) number false first old new same told = stays_told false first old new same told
told_more (Some file.TooLong) number true first old new same told = stays_told true first old new same told
told_more (Some file.TooLong) number false first old new same told = stays_told false first old new same told
told_more (Some file.Fault) number true first old new rose told = rose_on first old new told rose
told_more (Some file.Fault) number false first old new rose told = subst (λ (n : ℕ). Rose n new) told rose

line_tells : (first : ℕ) → KeptByLine (Told first)
line_tells first came number replies old new faults clashes told =
    subst (λ (any : Bool). Tells any first new.faults) (sym (list_any-append is_fault replies (file_replied number came)))
    (told_more came number (list_any is_fault replies) first old.faults new.faults faults told)

-- where the files are asked memory was not wanting
asks_found : (ended : Ending) → asks_files ended ≡ true → ended ≢ Halted no_memory
asks_found ended asks is = cc (sym asks ∙ ap asks_files is)

notes_told : (any : Bool) (old new : ℕ) → Tells any old new → NotesFailed any old new
notes_told true old new rose = rose
notes_told false old new same = omega (arith, same)

-- Where the files are asked behind a whole script, what came of its lines tells whether their count rose.
pub script_told : (first final : SessionStage) (ending : Ending) (closing : Option Halt) (source left : SourceTold) (told_first told : Option (List ℕ)) (refusals : Refusals)
    → Finished DoesScriptLine BreaksScriptLine WithdrawsLine ClosesScript GivesUp first ending closing source left told_first told final refusals
    → first.database.replies ≡ [] → asks_files (ended_by ending closing) ≡ true
    → NotesFailed (list_any is_fault final.database.replies) first.database.files.faults final.database.files.faults
script_told first final ending closing source left told_first told refusals finished none asks =
    let start : ℕ = first.database.files.faults in
    let began : FilesKept (Told start) first = subst (λ (came : List (ℕ × FileReply)). Tells (list_any is_fault came) start start) (sym none) refl in
    notes_told (list_any is_fault final.database.replies) start final.database.files.faults
    (answered_keeps (FilesKept (Told start)) (line_kept (Told start) (line_tells start)) (closed_kept (Told start))
    first final ending closing source left told_first told refusals finished (asks_found (ended_by ending closing) asks) began)
