-- Calls of which each that asks for the text of the database gets it.
use Rattle.std.proofs.Common.{◌≡◌, ℕ, List, [], ◌∷◌, ◌++◌, map, refl, sym, subst, inl, inr}
use Rattle.std.specs.Prelude.{Result, Ok, Err}
use Rattle.daq_io.specs.Seen.{Seen}
use Rattle.daq_types.specs.declared.runs.RunState.{RunState}
use Rattle.daq_types.specs.declared.runs.StartOutcome.{StartOutcome}
use Rattle.odb_value.specs.declared.path_refusals.PathRefusal.{PathRefusal}
use Rattle.odb_value.specs.PathText.{path_reply}
use Rattle.odb_script.specs.declared.commands.DatabaseCommand.{DatabaseCommand}
use Rattle.odb_script.specs.declared.commands.DatabaseCommand.TheVariants.{Rows, Watches}
use Rattle.odb_script.specs.declared.commands.WatchCommand.{WatchCommand}
use Rattle.odb_script.specs.declared.commands.WatchCommand.TheVariants as command
use Rattle.odb_tree.specs.declared.entry.DatabaseEntry.{DatabaseEntry}
use Rattle.odb_tree.specs.declared.notes.Note.{Note}
use Rattle.odb_tree.specs.declared.refusals.OdbRefusal.{OdbRefusal}
use Rattle.odb_watch.specs.declared.entry.WatchEntry.{WatchEntry}
use Rattle.odb_watch.specs.declared.entry.WatchEntry.TheVariants as call
use Rattle.odb_watch.specs.declared.notes.NoWatch.{NoWatch as no_watch}
use Rattle.odb_watch.specs.DatabasePorts.{AddsCall, AddsCalls, AddsEntries, DatabaseAccess, row_calls}
use Rattle.odb_commands.specs.declared.dump_replies.FileRead.{FileRead}
use Rattle.odb_commands.specs.declared.dump_replies.FileRead.TheVariants as was
use Rattle.odb_commands.specs.declared.watch_replies.ToldNote.{ToldNote}
use Rattle.odb_commands.specs.declared.watch_replies.WatchAnswer.{WatchAnswer}
use Rattle.odb_commands.specs.WatchAnswers.{path_asked}
use Rattle.odb_commands.specs.WatchCalls.{LoadsRead, OnPath, TellsTaken, WatchesFound, WatchesPath}
use Rattle.odb_commands.specs.WatchPerforms.{PerformsWatch}
use Rattle.console.specs.declared.replies.Reply.{Reply}
use Rattle.session_runs.specs.RunEntries.{BeginCalls, StopCalls}
use Rattle.console.specs.DatabaseStages.{DatabaseStage}
use Rattle.console.specs.DatabaseLines.{DoesDatabase}
use Rattle.session_commands.specs.RunLines.{KeysMade}
use Rattle.session_commands.specs.Keeping.{AllSaved, SavesDump}
use Rattle.session_commands.proofs.CallsOn.{CallsOn, all_both}
use Rattle.session_commands.proofs.SpareLaws.{SpareLaws}

-- The caller's own calls are more, and those that ask for the text get it.
abbrev pub SavedOn : (a b : DatabaseAccess) → Type 0
SavedOn a b = CallsOn SavesDump a b

-- calls on the rows do not ask for it
rows_saved : (calls : List DatabaseEntry) → AllSaved (row_calls calls)
rows_saved [] = tt
rows_saved (c ∷ calls) = (tt, rows_saved calls)

pub entries_saved : SpareLaws → (a b : DatabaseAccess) (entries : List WatchEntry) → AddsEntries a b entries → AllSaved entries → SavedOn a b
entries_saved laws a b entries adds saved = (entries, laws.entries a b entries adds, saved)

pub calls_saved : SpareLaws → (a b : DatabaseAccess) (calls : List DatabaseEntry) → AddsCalls a b calls → SavedOn a b
calls_saved laws a b calls adds = (row_calls calls, laws.calls a b calls adds, rows_saved calls)

pub call_saved : SpareLaws → (a b : DatabaseAccess) (entry : DatabaseEntry) → AddsCall a b entry → SavedOn a b
call_saved laws a b entry adds = entries_saved laws a b (call.Call entry ∷ []) (b, adds, refl) (tt, tt)

pub sets_saved : SpareLaws → (a b : DatabaseAccess) (calls : List DatabaseEntry) → AddsEntries a b (row_calls calls) → SavedOn a b
sets_saved laws a b calls adds = entries_saved laws a b (row_calls calls) adds (rows_saved calls)

pub keys_saved : SpareLaws → (fronts : List (List ℕ)) (a b : DatabaseAccess) → KeysMade fronts a b → SavedOn a b
keys_saved laws fronts a b made = calls_saved laws a b made.0 made.2

-- The calls of starts and stops.

text_behind : (calls : List DatabaseEntry) (dump : List ℕ) (entries : List WatchEntry) → entries ≡ row_calls calls ++ call.Save (Ok dump) ∷ [] → AllSaved entries
text_behind calls dump entries is = subst AllSaved (sym is) (all_both SavesDump (row_calls calls) (call.Save (Ok dump) ∷ []) (rows_saved calls) (refl, tt))

pub begin_saved : (run time : ℕ) (outcome : StartOutcome) (dump : List ℕ) (entries : List WatchEntry) → BeginCalls run time outcome dump entries → AllSaved entries
begin_saved run time outcome dump entries b = subst AllSaved (sym b.are)
    (all_both SavesDump b.first (row_calls b.sets) (text_behind b.announces.sets dump b.first b.announces.are) (rows_saved b.sets))

pub stop_saved : (state : RunState) (time : ℕ) (dump : List ℕ) (entries : List WatchEntry) → StopCalls state time (Ok dump) entries → AllSaved entries
stop_saved state time dump entries s = subst AllSaved (sym s.are)
    (all_both SavesDump s.first (row_calls s.sets) (text_behind s.announces.sets dump s.first s.announces.are) (rows_saved s.sets))

-- The commands for watches and dumps, where they are answered.

paths_saved : (told : List ToldNote) → AllSaved (map path_asked told)
paths_saved [] = tt
paths_saved (t ∷ ts) = (tt, paths_saved ts)

found_saved : (found : Result ℕ OdbRefusal) (calls : List WatchEntry) (answer : WatchAnswer) → WatchesFound found calls answer → AllSaved calls
found_saved (Err why) calls answer does = subst AllSaved (sym does.0) tt
found_saved (Ok row) calls answer does = subst AllSaved (sym does.1) (tt, tt)

path_saved : (read : Result (List (List ℕ)) PathRefusal) (calls : List WatchEntry) (answer : WatchAnswer) → OnPath read WatchesPath calls answer → AllSaved calls
path_saved (Err why) calls answer does = subst AllSaved (sym does.0) tt
path_saved (Ok p) calls answer does = subst AllSaved (sym does.2) (tt, found_saved does.0 does.1 answer does.4)

taken_saved : (got : Result (List Note × ℕ) no_watch) (calls : List WatchEntry) (answer : WatchAnswer) → TellsTaken got calls answer → AllSaved calls
taken_saved (Err e) calls answer does = subst AllSaved (sym does.0) tt
taken_saved (Ok taken) calls answer does = subst AllSaved (sym does.1.1) (paths_saved does.0)

read_saved : (read : FileRead) (calls : List WatchEntry) (answer : WatchAnswer) → LoadsRead read calls answer → AllSaved calls
read_saved (was.Whole text) calls answer does = subst AllSaved (sym does.1) (tt, tt)
read_saved was.Missing calls answer does = subst AllSaved (sym does.0) tt
read_saved was.Fault calls answer does = subst AllSaved (sym does.0) tt
read_saved was.TooLong calls answer does = subst AllSaved (sym does.0) tt

performs_saved : (c : WatchCommand) (old new : Seen) (calls : List WatchEntry) (answer : WatchAnswer) → PerformsWatch c old new calls answer → AllSaved calls
performs_saved (command.Load name) old new calls answer (inl refused) = subst AllSaved (sym refused.2.0) tt
performs_saved (command.Load name) old new calls answer (inr does) = read_saved does.1.0 calls answer does.1.3
performs_saved (command.Save name) old new calls answer (inl refused) = subst AllSaved (sym refused.2.0) tt
performs_saved (command.Save name) old new calls answer (inr does) = subst AllSaved (sym does.1.2) (refl, tt)
performs_saved (command.Watch path) old new calls answer does = path_saved (path_reply path) calls answer does.1
performs_saved (command.Notes w) old new calls answer does = subst AllSaved (sym does.1.2) (tt, taken_saved does.1.0 does.1.1 answer does.1.3)
performs_saved (command.Unwatch w) old new calls answer does = subst AllSaved (sym does.1.1) (tt, tt)

pub database_saved : SpareLaws → (number : ℕ) (c : DatabaseCommand) (old : DatabaseStage) (reply : Reply) (new : DatabaseStage) → DoesDatabase number c old reply new → SavedOn old.access new.access
database_saved laws number (Rows c) old reply new does = calls_saved laws old.access new.access does.answers.calls does.answers.made
database_saved laws number (Watches c) old reply new does = entries_saved laws old.access new.access does.answers.calls does.answers.made
    (performs_saved c old.files.seen new.files.seen does.answers.calls does.answer does.answers.does)
