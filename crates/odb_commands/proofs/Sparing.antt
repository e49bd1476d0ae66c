-- No command for watches or dumps removes anything.
use Rattle.std.proofs.Common.{ℕ, List, [], ◌∷◌, map, Result, Ok, Err, sym, subst, inl, inr}
use Rattle.std.specs.List.{AllByRecursion}
use Rattle.daq_io.specs.Seen.{Seen}
use Rattle.odb_value.specs.declared.path_refusals.PathRefusal.{PathRefusal}
use Rattle.odb_value.specs.PathText.{path_reply}
use Rattle.odb_tree.specs.declared.notes.Note.{Note}
use Rattle.odb_tree.specs.declared.refusals.OdbRefusal.{OdbRefusal}
use Rattle.odb_watch.specs.declared.notes.NoWatch.{NoWatch as no_watch}
use Rattle.odb_watch.specs.declared.entry.WatchEntry.{WatchEntry}
use Rattle.odb_script.specs.declared.commands.WatchCommand.{WatchCommand}
use Rattle.odb_script.specs.declared.commands.WatchCommand.TheVariants as command
use Rattle.odb_commands.specs.declared.dump_replies.FileRead.{FileRead}
use Rattle.odb_commands.specs.declared.dump_replies.FileRead.TheVariants as was
use Rattle.odb_commands.specs.declared.watch_replies.ToldNote.{ToldNote}
use Rattle.odb_commands.specs.declared.watch_replies.WatchAnswer.{WatchAnswer}
use Rattle.odb_commands.specs.WatchAnswers.{path_asked}
use Rattle.odb_commands.specs.WatchCalls.{OnPath, WatchesFound, WatchesPath, TellsTaken, LoadsRead}
use Rattle.odb_commands.specs.WatchPerforms.{PerformsWatch}
use Rattle.odb_commands.specs.WatchSpares.{SparesWatched}

abbrev Spare : List WatchEntry → Type 0
Spare calls = AllByRecursion SparesWatched calls

paths_spare : (told : List ToldNote) → Spare (map path_asked told)
paths_spare [] = tt
paths_spare (t ∷ ts) = (tt, paths_spare ts)

found_spares : (found : Result ℕ OdbRefusal) (calls : List WatchEntry) (answer : WatchAnswer) → WatchesFound found calls answer → Spare calls
found_spares (Err why) calls answer does = subst Spare (sym does.0) tt
found_spares (Ok row) calls answer does = subst Spare (sym does.1) (tt, tt)

path_spares : (p : List (List ℕ)) (calls : List WatchEntry) (answer : WatchAnswer) → WatchesPath p calls answer → Spare calls
path_spares p calls answer does = subst Spare (sym does.2) (tt, found_spares does.0 does.1 answer does.4)

on_path_spares : (read : Result (List (List ℕ)) PathRefusal) (calls : List WatchEntry) (answer : WatchAnswer) → OnPath read WatchesPath calls answer → Spare calls
on_path_spares (Err why) calls answer does = subst Spare (sym does.0) tt
on_path_spares (Ok p) calls answer does = path_spares p calls answer does

taken_spares : (got : Result (List Note × ℕ) no_watch) (calls : List WatchEntry) (answer : WatchAnswer) → TellsTaken got calls answer → Spare calls
taken_spares (Err e) calls answer does = subst Spare (sym does.0) tt
taken_spares (Ok taken) calls answer does = subst Spare (sym does.1.1) (paths_spare does.0)

read_spares : (read : FileRead) (calls : List WatchEntry) (answer : WatchAnswer) → LoadsRead read calls answer → Spare calls
read_spares (was.Whole text) calls answer does = subst Spare (sym does.1) (tt, tt)
read_spares was.Missing calls answer does = subst Spare (sym does.0) tt
read_spares was.Fault calls answer does = subst Spare (sym does.0) tt
read_spares was.TooLong calls answer does = subst Spare (sym does.0) tt

pub performs_spares : (c : WatchCommand) (old new : Seen) (calls : List WatchEntry) (answer : WatchAnswer) → PerformsWatch c old new calls answer → Spare calls
performs_spares (command.Load name) old new calls answer (inl refused) = subst Spare (sym refused.2.0) tt
performs_spares (command.Load name) old new calls answer (inr does) = read_spares does.1.0 calls answer does.1.3
performs_spares (command.Save name) old new calls answer (inl refused) = subst Spare (sym refused.2.0) tt
performs_spares (command.Save name) old new calls answer (inr does) = subst Spare (sym does.1.2) (tt, tt)
performs_spares (command.Watch path) old new calls answer does = on_path_spares (path_reply path) calls answer does.1
performs_spares (command.Notes w) old new calls answer does = subst Spare (sym does.1.2) (tt, taken_spares does.1.0 does.1.1 answer does.1.3)
performs_spares (command.Unwatch w) old new calls answer does = subst Spare (sym does.1.1) (tt, tt)
