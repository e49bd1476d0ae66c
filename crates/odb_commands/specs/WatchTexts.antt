-- The console text of the commands for watches and dumps.
use Rattle.std.specs.Prelude.{ℕ, Bool, true, false, List, [], ◌∷◌, ◌++◌, Option, Some, None, codes}
use Rattle.std.specs.List.{flat_map}
use Rattle.std.specs.Fmt.{decimal}
use Rattle.odb_tree.specs.declared.refusals.OdbRefusal.{OdbRefusal}
use Rattle.odb_text.specs.declared.acts.Loaded.{Loaded as keys_loaded}
use Rattle.odb_text.specs.declared.acts.LoadRefusal.{LoadRefusal}
use Rattle.odb_text.specs.declared.acts.LoadRefusal.TheVariants as load
use Rattle.odb_value.specs.PathText.{path_text}
use Rattle.odb_watch.specs.declared.notes.WatchRefusal.{WatchRefusal}
use Rattle.odb_watch.specs.declared.notes.WatchRefusal.TheVariants as watch
use Rattle.odb_commands.specs.Texts.{path_refusal_text, odb_text, refused_line}
use Rattle.odb_commands.specs.declared.watch_replies.ToldNote.{ToldNote}
use Rattle.odb_commands.specs.declared.watch_replies.WatchCommandRefusal.{WatchCommandRefusal}
use Rattle.odb_commands.specs.declared.watch_replies.WatchCommandRefusal.TheVariants.{Path, Database, Watch, NoWatch, BadFileName, Missing, Exists, FileFault, TooLong, Load}
use Rattle.odb_commands.specs.declared.watch_replies.WatchReply.{WatchReply}
use Rattle.odb_commands.specs.declared.watch_replies.WatchReply.TheVariants.{Ended, Loaded, Saved, Watching, Told, Refused}

-- Notes: the path of the row, or its number where the row is gone, and the index of the item that was written.

abbrev pub told_row : (row : ℕ) → Option (List (List ℕ)) → List ℕ
told_row row None = codes "gone " ++ decimal row
told_row row (Some p) = path_text p

abbrev pub told_line : ToldNote → List ℕ
told_line told = told_row told.note.row told.path ++ (codes "[" ++ (decimal told.note.index ++ codes "]\n"))

abbrev pub told_lines : List ToldNote → List ℕ
told_lines notes = flat_map told_line notes

-- Refusals: the name, and the fields in the order of their declaration, each behind a blank. A refusal within another
-- stands in its place.

abbrev pub watch_why_text : WatchRefusal → List ℕ
watch_why_text watch.NoWatchSlot = codes "NoWatchSlot"
watch_why_text watch.NoMemory = codes "NoMemory"

abbrev pub key_refused_text : (line : ℕ) → OdbRefusal → List ℕ
key_refused_text line why = codes "KeyRefused " ++ (decimal line ++ (codes " " ++ odb_text why))

abbrev pub load_why_text : LoadRefusal → List ℕ
load_why_text (load.BadLine line) = codes "BadLine " ++ decimal line
load_why_text (load.KeyRefused line why) = key_refused_text line why
load_why_text load.NoMemory = codes "NoMemory"

abbrev pub watch_refusal_text : WatchCommandRefusal → List ℕ
watch_refusal_text (Path why) = path_refusal_text why
watch_refusal_text (Database why) = odb_text why
watch_refusal_text (Watch why) = watch_why_text why
watch_refusal_text NoWatch = codes "NoWatch"
watch_refusal_text BadFileName = codes "BadFileName"
watch_refusal_text Missing = codes "Missing"
watch_refusal_text Exists = codes "Exists"
watch_refusal_text FileFault = codes "FileFault"
watch_refusal_text TooLong = codes "TooLong"
watch_refusal_text (Load why) = load_why_text why

-- how many keys of a text were loaded, and how many skipped
abbrev pub loaded_line : keys_loaded → List ℕ
loaded_line loaded = codes "loaded " ++ (decimal loaded.keys ++ (codes " skipped " ++ (decimal loaded.skipped ++ 10 ∷ [])))

-- what a command in the script line of this number prints
abbrev pub watch_reply_text : (line : ℕ) → WatchReply → List ℕ
watch_reply_text line Ended = []
watch_reply_text line (Loaded loaded) = loaded_line loaded
watch_reply_text line (Saved bytes) = codes "saved " ++ (decimal bytes ++ 10 ∷ [])
watch_reply_text line (Watching w) = codes "watch " ++ (decimal w ++ 10 ∷ [])
watch_reply_text line (Told notes lost) = told_lines notes ++ (codes "lost " ++ (decimal lost ++ 10 ∷ []))
watch_reply_text line (Refused why) = refused_line line (watch_refusal_text why)

abbrev pub is_watch_refusal : WatchReply → Bool
is_watch_refusal Ended = false
is_watch_refusal (Loaded loaded) = false
is_watch_refusal (Saved bytes) = false
is_watch_refusal (Watching w) = false
is_watch_refusal (Told notes lost) = false
is_watch_refusal (Refused why) = true
