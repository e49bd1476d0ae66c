-- What a command for watches or dumps of the script does.
use Rattle.std.specs.Prelude.{◌≡◌, ℕ, List, [], ◌∷◌, Result}
use Rattle.daq_io.specs.Seen.{Seen, Same}
use Rattle.odb_value.specs.PathText.{path_reply}
use Rattle.odb_text.specs.declared.acts.Loaded.{Loaded}
use Rattle.odb_text.specs.declared.acts.LoadRefusal.{LoadRefusal}
use Rattle.odb_watch.specs.declared.entry.WatchEntry.{WatchEntry}
use Rattle.odb_watch.specs.declared.entry.WatchEntry.TheVariants as call
use Rattle.odb_script.specs.declared.commands.WatchCommand.{WatchCommand}
use Rattle.odb_script.specs.declared.commands.WatchCommand.TheVariants as command
use Rattle.odb_commands.specs.WholeFiles.{HasText}
use Rattle.odb_commands.specs.declared.watch_replies.WatchAnswer.{WatchAnswer}
use Rattle.odb_commands.specs.WatchCalls.{OnPath, WatchesPath, TakesNotes, EndsWatch, OnFileName, LoadsFile, SavesFile}

-- The command makes these calls on the database, each with the reply that it got, the files of the database tell then what is
-- new, and the command is answered so.
abbrev pub PerformsWatch : WatchCommand → (old new : Seen) → (calls : List WatchEntry) → (answer : WatchAnswer) → Type 0
PerformsWatch (command.Load name) old new calls answer = OnFileName name old new (LoadsFile old new) calls answer
PerformsWatch (command.Save name) old new calls answer = OnFileName name old new (SavesFile old new) calls answer
PerformsWatch (command.Watch path) old new calls answer = (new ≡ old) × OnPath (path_reply path) WatchesPath calls answer
PerformsWatch (command.Notes w) old new calls answer = (new ≡ old) × TakesNotes w calls answer
PerformsWatch (command.Unwatch w) old new calls answer = (new ≡ old) × EndsWatch w calls answer

-- the name of the file that a command reads or writes
abbrev pub file_word : WatchCommand → List ℕ
file_word (command.Load name) = name
file_word (command.Save name) = name
file_word (command.Watch path) = []
file_word (command.Notes w) = []
file_word (command.Unwatch w) = []

-- A file that is read to its end and closed, and its text loaded by the one call: the text is what the file has, and no file
-- changes.
pub record LoadsTextOf (old new : Seen) (name : List ℕ) (calls : List WatchEntry) : Type 0 where
  pub text : List ℕ
  pub has : HasText old name text
  pub same : Same old new
  pub got : Result Loaded LoadRefusal
  pub one_call : calls ≡ call.Load text got ∷ []
