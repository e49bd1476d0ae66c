-- What the commands for watches and dumps are answered, by what the database and its files answer.
use Rattle.std.specs.Prelude.{ℕ, Some, None, Result, Ok, Err}
use Rattle.odb_tree.specs.declared.notes.Note.{Note}
use Rattle.odb_tree.specs.declared.entry.DatabaseEntry.TheVariants.{PathOf}
use Rattle.odb_text.specs.declared.acts.Loaded.{Loaded as keys_loaded}
use Rattle.odb_text.specs.declared.acts.LoadRefusal.{LoadRefusal}
use Rattle.odb_watch.specs.declared.notes.NoWatch.{NoWatch as no_watch}
use Rattle.odb_watch.specs.declared.notes.WatchRefusal.{WatchRefusal}
use Rattle.odb_watch.specs.declared.entry.WatchEntry.{WatchEntry}
use Rattle.odb_watch.specs.declared.entry.WatchEntry.TheVariants.{Call}
use Rattle.odb_commands.specs.declared.dump_replies.FileReply.{FileReply}
use Rattle.odb_commands.specs.declared.dump_replies.FileReply.TheVariants as file
use Rattle.odb_commands.specs.declared.watch_replies.ToldNote.{ToldNote}
use Rattle.odb_commands.specs.declared.watch_replies.WatchCommandRefusal.{WatchCommandRefusal}
use Rattle.odb_commands.specs.declared.watch_replies.WatchCommandRefusal.TheVariants.{Watch, NoWatch, Exists, FileFault, TooLong, Load}
use Rattle.odb_commands.specs.declared.watch_replies.WatchReply.{WatchReply}
use Rattle.odb_commands.specs.declared.watch_replies.WatchReply.TheVariants.{Ended, Loaded, Saved, Watching, Refused}
use Rattle.odb_commands.specs.declared.watch_replies.WatchAnswer.{WatchAnswer}

-- a reply, where no file was called
abbrev pub said : WatchReply → WatchAnswer
said reply = record { reply = reply; file = None }

abbrev pub refused_for : WatchCommandRefusal → WatchAnswer
refused_for why = said (Refused why)

-- a reply, where the calls on the files came to this
abbrev pub said_with : FileReply → WatchReply → WatchAnswer
said_with came reply = record { reply = reply; file = Some came }

-- `watch`: the number of the watch
abbrev pub watching_or : Result ℕ WatchRefusal → WatchAnswer
watching_or (Ok w) = said (Watching w)
watching_or (Err why) = refused_for (Watch why)

-- `unwatch`: nothing
abbrev pub ended_or : Result (Unit {0}) no_watch → WatchAnswer
ended_or (Ok done) = said Ended
ended_or (Err e) = refused_for NoWatch

-- `load`, where the file was read whole: how many keys were loaded
abbrev pub loaded_or : Result keys_loaded LoadRefusal → WatchAnswer
loaded_or (Ok loaded) = said_with file.Done (Loaded loaded)
loaded_or (Err why) = said_with file.Done (Refused (Load why))

-- `save`: how many bytes were written
abbrev pub saved_or : (bytes : ℕ) → FileReply → WatchAnswer
saved_or bytes file.Done = said_with file.Done (Saved bytes)
saved_or bytes file.Clash = said_with file.Clash (Refused Exists)
saved_or bytes file.Fault = said_with file.Fault (Refused FileFault)
saved_or bytes file.TooLong = said_with file.TooLong (Refused TooLong)

-- `notes`: each note with the path of its row, which is asked for by one call
abbrev pub note_told : ToldNote → Note
note_told told = told.note

abbrev pub path_asked : ToldNote → WatchEntry
path_asked told = Call (PathOf told.note.row (Ok told.path))
