-- What a script does to the files of the dumps.
use Rattle.std.specs.Prelude.{◌≡◌, ◌⊎◌, ⊤, IsTrue, List, [], ◌∷◌, ℕ, length, Contains, Some, Ok}
use Rattle.daq_io.specs.Seen.{FileDone, GoesOn, Seen, Stored, stored_closed, was_left}
use Rattle.odb_watch.specs.declared.entry.WatchEntry.{WatchEntry}
use Rattle.odb_watch.specs.declared.entry.WatchEntry.TheVariants as call
use Rattle.odb_commands.specs.declared.watch_replies.WatchReply.TheVariants.{Saved}
use Rattle.odb_script.specs.declared.commands.Command.{Command}
use Rattle.odb_script.specs.declared.commands.WatchCommand.TheVariants.{Save}
use Rattle.odb_script.specs.Forms.{Read, command_of, on_watches}
use Rattle.console.specs.declared.replies.Reply.{Reply}
use Rattle.console.specs.declared.replies.Reply.TheVariants.{Watch}

-- one of these lines is a `save` of this name
abbrev pub IsSavedBy : List (List ℕ) → (name : List ℕ) → Type 0
IsSavedBy lines name = (line : List ℕ) × Contains lines line × (command_of line ≡ Ok (on_watches (Save name)))

-- What was done to the files of the dumps before still stands. Where they tell: each one that was there before is there with the
-- same bytes, and each new one has the name of a `save` among these lines.
pub record KeepsDumps (lines : List (List ℕ)) (old new : Seen) : Type 0 where
  pub names : new.names ≡ old.names
  pub on : GoesOn old new
  pub stay : IsTrue old.names → (name : List ℕ) → (file : Stored) → old.at name ≡ Some file → new.at name ≡ Some file
  pub added : IsTrue old.names → (name : List ℕ) → (file : Stored) → new.at name ≡ Some file →
      (old.at name ≡ Some file) ⊎ IsSavedBy lines name

-- One of these calls got the text of the database, which has so many bytes; and a file of this name was made and closed whole,
-- with that text.
pub record IsSavedWhole (calls : List WatchEntry) (done : List FileDone) (name : List ℕ) (bytes : ℕ) : Type 0 where
  pub text : List ℕ
  pub got : Contains calls (call.Save (Ok text))
  pub written : Contains done (was_left name (stored_closed text))
  pub size : bytes ≡ length text

-- where the line is a `save` of this name, and is answered that so many bytes were saved, that was done
abbrev pub SavesWhole : Read Command → Reply → (calls : List WatchEntry) → (done : List FileDone) → Type 0
SavesWhole line reply calls done =
    (name : List ℕ) (bytes : ℕ) → line ≡ Ok (on_watches (Save name)) → reply ≡ Watch (Saved bytes) → IsSavedWhole calls done name bytes

-- Of each of these lines a `save` that was answered to be done made its file whole.
abbrev pub EachSavesWhole : (lines : List (List ℕ)) → (replies : List Reply) → (calls : List WatchEntry) → (done : List FileDone) →
    Type 0
EachSavesWhole [] replies calls done = ⊤
EachSavesWhole (line ∷ lines) [] calls done = ⊤
EachSavesWhole (line ∷ lines) (reply ∷ replies) calls done =
    SavesWhole (command_of line) reply calls done × EachSavesWhole lines replies calls done
