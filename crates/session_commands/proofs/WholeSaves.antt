-- Each `save` that is answered so made a file with all of the text that the database gave.
use Rattle.std.proofs.Common.{◌≡◌, ℕ, ◌+◌, List, [], ◌∷◌, ◌++◌, length, Option, refl, ap, sym, ◌∙◌, subst}
use Rattle.std.specs.Prelude.{Contains, Ok}
use Rattle.std.proofs.Math.Logic.{⊎_elim}
use Rattle.std.proofs.lemmas.List.Elements.{Contains-append_left, Contains-push}
use Rattle.daq_io.specs.Told.{SourceTold}
use Rattle.daq_io.specs.Seen.{GoesOn, Seen, Stores}
use Rattle.daq_io.proofs.SeenLaws.{Stores-IsStored, done_on}
use Rattle.odb_watch.specs.declared.entry.WatchEntry.{WatchEntry}
use Rattle.odb_watch.specs.declared.entry.WatchEntry.TheVariants as call
use Rattle.odb_watch.specs.DatabasePorts.{own_watched}
use Rattle.odb_commands.specs.declared.dump_replies.FileReply.{FileReply}
use Rattle.odb_commands.specs.declared.dump_replies.FileReply.TheVariants.{Done, Clash, Fault, TooLong}
use Rattle.odb_commands.specs.declared.watch_replies.WatchReply.{WatchReply}
use Rattle.odb_commands.specs.declared.watch_replies.WatchReply.TheVariants.{Saved}
use Rattle.odb_commands.specs.declared.watch_replies.WatchAnswer.{WatchAnswer}
use Rattle.odb_commands.specs.WatchAnswers.{saved_or}
use Rattle.odb_commands.specs.WatchCalls.{SavesFile}
use Rattle.odb_commands.specs.WholeFiles.{WritesFile}
use Rattle.odb_script.specs.declared.commands.Command.{Command}
use Rattle.odb_script.specs.declared.commands.WatchCommand.TheVariants.{Save}
use Rattle.odb_script.specs.Forms.{Read, command_of, on_watches}
use Rattle.console.specs.declared.replies.Reply.{Reply}
use Rattle.console.specs.declared.replies.Reply.TheVariants.{Watch}
use Rattle.console.specs.declared.refusals.Refusals.{Refusals}
use Rattle.console.specs.declared.endings.Ending.{Ending}
use Rattle.console.specs.declared.halts.Halt.{Halt}
use Rattle.console.specs.DatabaseStages.{DatabaseStage}
use Rattle.console.specs.DatabaseLines.{PerformsDump}
use Rattle.console.specs.Playing.{PlaysFrom}
use Rattle.console.specs.Closing.{Finished}
use Rattle.console.proofs.KeepingLaws.{behind_keeps, plays_keep}
use Rattle.session_commands.proofs.WithdrawnLaws.{withdrawn}
use Rattle.session_commands.specs.Stages.{SessionStage}
use Rattle.session_commands.specs.ScriptLines.{BreaksScriptLine, ClosesScript, DoesScriptLine, GivesUp, WithdrawsLine}
use Rattle.session_commands.specs.KeptDumps.{EachSavesWhole, IsSavedWhole}
use Rattle.session_commands.proofs.DumpLaws.{closed_goes_on, cut_goes_on, files_seen, given_up_goes_on, line_goes_on}
use Rattle.session_commands.proofs.SpareLaws.{SpareLaws, SparesOn}
use Rattle.session_commands.proofs.SpareLines.{line_answered, line_breaks, run_closes, stop_breaks}

-- One line.

-- only a file that was written whole is answered so
saved_whole : (came : FileReply) (size bytes : ℕ) → (saved_or size came).reply ≡ Saved bytes → (came ≡ Done) × (bytes ≡ size)
saved_whole Done size bytes is = (refl, cc (sym is))
saved_whole Clash size bytes is = absurd (cc is)
saved_whole Fault size bytes is = absurd (cc is)
saved_whole TooLong size bytes is = absurd (cc is)

same_reply : (one other : WatchReply) → ◌≡◌ {A = Reply} (Watch one) (Watch other) → one ≡ other
same_reply one other same = cc same

-- so it is in this stage
abbrev SavedIn : (name : List ℕ) (bytes : ℕ) → SessionStage → Type 0
SavedIn name bytes s = IsSavedWhole (own_watched s.database.access) (files_seen s).done name bytes

file_saved : SpareLaws → (number : ℕ) (name : List ℕ) (bytes : ℕ) (old new : DatabaseStage) (reply : Reply) (does : PerformsDump number (Save name) old reply new) → does.answer.reply ≡ Saved bytes
    → SavesFile old.files.seen new.files.seen name does.answers.calls does.answer → IsSavedWhole (own_watched new.access) new.files.seen.done name bytes
file_saved laws number name bytes old new reply does is saves =
    let so : (saves.1 ≡ Done) × (bytes ≡ length saves.0) = saved_whole saves.1 (length saves.0) bytes (ap (λ (x : WatchAnswer). x.reply) (sym saves.4) ∙ is) in
    let stores : Stores old.files.seen new.files.seen name saves.0 = subst (λ (came : FileReply). WritesFile old.files.seen new.files.seen name saves.0 came) so.0 saves.3 in
    let calls : own_watched new.access ≡ own_watched old.access ++ call.Save (Ok saves.0) ∷ [] =
    laws.entries old.access new.access does.answers.calls does.answers.made ∙ ap (λ (more : List WatchEntry). own_watched old.access ++ more) saves.2 in
    record {
      text = saves.0;
      got = subst (λ (all : List WatchEntry). Contains all (call.Save (Ok saves.0))) (sym calls) (Contains-push (own_watched old.access) (call.Save (Ok saves.0)));
      written = (Stores-IsStored stores).written;
      size = so.1;
    }

dump_saved : SpareLaws → (number : ℕ) (name : List ℕ) (bytes : ℕ) (old new : DatabaseStage) (reply : Reply) → PerformsDump number (Save name) old reply new → reply ≡ Watch (Saved bytes)
    → IsSavedWhole (own_watched new.access) new.files.seen.done name bytes
dump_saved laws number name bytes old new reply does said =
    let is : does.answer.reply ≡ Saved bytes = same_reply does.answer.reply (Saved bytes) (sym does.reply_is ∙ said) in
    ⊎_elim
    (λ refused. (let wrong : _ ≡ Saved bytes = ap (λ (x : WatchAnswer). x.reply) (sym refused.2.1) ∙ is in absurd (cc wrong)))
    (λ saves. file_saved laws number name bytes old new reply does is saves.1)
    does.answers.does

line_saved : SpareLaws → (number : ℕ) (line : Read Command) (old : SessionStage) (reply : Reply) (new : SessionStage) → DoesScriptLine number line old reply new
    → (name : List ℕ) (bytes : ℕ) → line ≡ Ok (on_watches (Save name)) → reply ≡ Watch (Saved bytes) → SavedIn name bytes new
line_saved laws number line old reply new does name bytes at is =
    let as_save : DoesScriptLine number (Ok (on_watches (Save name))) old reply new = subst (λ (x : Read Command). DoesScriptLine number x old reply new) at does in
    dump_saved laws number name bytes old.database new.database reply as_save.0 is

-- What was saved stays so.

saved_on : (name : List ℕ) (bytes : ℕ) (old new : SessionStage) → SparesOn old.database.access new.database.access → GoesOn (files_seen old) (files_seen new) → SavedIn name bytes old → SavedIn name bytes new
saved_on name bytes old new calls on saved = record {
  text = saved.text;
  got = subst (λ (all : List WatchEntry). Contains all (call.Save (Ok saved.text))) (sym calls.1) (Contains-append_left (own_watched old.database.access) calls.0 (call.Save (Ok saved.text)) saved.got);
  written = done_on on saved.written;
  size = saved.size;
}

line_keeps : SpareLaws → (name : List ℕ) (bytes : ℕ) (number : ℕ) (line : Read Command) (old new : SessionStage) (reply : Reply) → DoesScriptLine number line old reply new → SavedIn name bytes old → SavedIn name bytes new
line_keeps laws name bytes number line old new reply does =
    saved_on name bytes old new (line_answered laws number line old new reply does).spares (line_goes_on number line old reply new does)

-- All lines.

lines_saved : SpareLaws → (number : ℕ) (lines : List (List ℕ)) (replies : List Reply) (old new final : SessionStage) → PlaysFrom DoesScriptLine number lines replies old new
    → ((name : List ℕ) (bytes : ℕ) → SavedIn name bytes new → SavedIn name bytes final) → EachSavesWhole lines replies (own_watched final.database.access) (files_seen final).done
lines_saved laws number [] replies old new final plays behind = tt
lines_saved laws number (line ∷ lines) [] old new final plays behind = tt
lines_saved laws number (line ∷ lines) (reply ∷ replies) old new final plays behind = (
  λ name bytes at is. behind name bytes
      (plays_keep DoesScriptLine BreaksScriptLine WithdrawsLine ClosesScript GivesUp (SavedIn name bytes) (line_keeps laws name bytes) (number + 1) lines replies plays.0 new plays.2
      (line_saved laws number (command_of line) old reply plays.0 plays.1 name bytes at is)),
  lines_saved laws (number + 1) lines replies plays.0 new final plays.2 behind,
)

-- A whole script.
pub script_saves : SpareLaws → (first final : SessionStage) (ending : Ending) (closing : Option Halt) (source left : SourceTold) (told_first told : Option (List ℕ)) (refusals : Refusals)
    → (finished : Finished DoesScriptLine BreaksScriptLine WithdrawsLine ClosesScript GivesUp first ending closing source left told_first told final refusals)
    → EachSavesWhole finished.lines finished.replies (own_watched final.database.access) final.database.files.seen.done
script_saves laws first final ending closing source left told_first told refusals finished =
    lines_saved laws 1 finished.lines finished.replies first finished.between final finished.plays
    (λ name bytes saved.
    behind_keeps DoesScriptLine BreaksScriptLine WithdrawsLine ClosesScript GivesUp (SavedIn name bytes)
    (λ number old new withdrew saved. subst (SavedIn name bytes) (sym (withdrawn number old new withdrew)) saved)
    (λ number line old new broke. saved_on name bytes old new (line_breaks laws number line old new broke) (cut_goes_on number line old new broke))
    (λ old new reply closed. saved_on name bytes old new (run_closes laws old.runs old reply new closed).spares (closed_goes_on old reply new closed))
    (λ old new gave. saved_on name bytes old new (stop_breaks laws old.runs old new gave.1) (given_up_goes_on old new gave))
    first final ending closing source left told_first told refusals finished saved)
