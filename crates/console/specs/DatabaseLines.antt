-- What the commands of the online database do, and what they are answered.
use Rattle.std.specs.Prelude.{◌≡◌, ◌≢◌, ℕ, ◌⊎◌, List, [], ◌∷◌, ◌++◌, Option, Some, None}
use Rattle.daq_io.specs.Seen.{Same}
use Rattle.odb_script.specs.declared.commands.DatabaseCommand.{DatabaseCommand}
use Rattle.odb_script.specs.declared.commands.DatabaseCommand.TheVariants.{Rows, Watches}
use Rattle.odb_script.specs.declared.commands.RowCommand.{RowCommand}
use Rattle.odb_script.specs.declared.commands.WatchCommand.{WatchCommand}
use Rattle.odb_commands.specs.declared.replies.CommandReply.{CommandReply}
use Rattle.odb_commands.specs.CommandCalls.{Answers, CutsAnswer, Performs}
use Rattle.odb_commands.specs.declared.dump_replies.FileReply.{FileReply}
use Rattle.odb_commands.specs.declared.watch_replies.WatchAnswer.{WatchAnswer}
use Rattle.odb_commands.specs.WatchCalls.{AnswersWatch, CutsWatch, FaultsIf, ClashesIf, NamesFaultIf}
use Rattle.odb_commands.specs.WatchPerforms.{PerformsWatch, file_word}
use Rattle.console.specs.declared.replies.Reply.{Reply}
use Rattle.console.specs.declared.replies.Reply.TheVariants.{Database, Watch}
use Rattle.console.specs.DatabaseStages.{DatabaseStage}

-- `create`, `link`, `set`, `get`, `ls` and `rm`: the calls on the rows that the command makes, with the replies that they got
pub record PerformsRows (command : RowCommand) (old : DatabaseStage) (reply : Reply) (new : DatabaseStage) : Type 0 where
  pub answer : CommandReply
  pub answers : Answers old.access new.access (Performs command) answer
  pub reply_is : reply ≡ Database answer
  pub files : new.files ≡ old.files
  pub replies : new.replies ≡ old.replies

-- the entry of a line that called the files, if it did
abbrev pub file_replied : (number : ℕ) → Option FileReply → List (ℕ × FileReply)
file_replied number None = []
file_replied number (Some came) = (number, came) ∷ []

-- `load`, `save`, `watch`, `notes` and `unwatch`: the calls on the database and on its files, with what came of them
pub record PerformsDump (number : ℕ) (command : WatchCommand) (old : DatabaseStage) (reply : Reply) (new : DatabaseStage) : Type 0 where
  pub answer : WatchAnswer
  pub answers : AnswersWatch old.access new.access (PerformsWatch command old.files.seen new.files.seen) answer
  pub reply_is : reply ≡ Watch answer.reply
  pub replies : new.replies ≡ old.replies ++ file_replied number answer.file
  pub faults : FaultsIf answer.file old.files.faults new.files.faults
  pub clashes : ClashesIf answer.file old.files.clashes new.files.clashes
  pub first : NamesFaultIf answer.file (file_word command) old.files.first new.files.first

-- the last entry is not that of the line of this number
abbrev pub LacksEntry : (number : ℕ) → List (ℕ × FileReply) → Type 0
LacksEntry number replies = (before : List (ℕ × FileReply)) (came : FileReply) → replies ≢ before ++ (number, came) ∷ []

-- The last entry is that of the line of this number, and is taken out; or it is not, and stays.
abbrev pub TakesEntry : (number : ℕ) → (old new : List (ℕ × FileReply)) → Type 0
TakesEntry number old new = ((came : FileReply) × (old ≡ new ++ (number, came) ∷ [])) ⊎ (LacksEntry number old × (new ≡ old))

-- The line of this number is the last that was answered: its entry is taken out again, where it has one, and nothing else changes.
pub record WithdrawsEntry (number : ℕ) (old new : DatabaseStage) : Type 0 where
  pub entry : TakesEntry number old.replies new.replies
  pub rest : new ≡ record old { replies = new.replies }

-- what the command of the line of this number does
abbrev pub DoesDatabase : (number : ℕ) → DatabaseCommand → (old : DatabaseStage) → Reply → (new : DatabaseStage) → Type 0
DoesDatabase number (Rows command) old reply new = PerformsRows command old reply new
DoesDatabase number (Watches command) old reply new = PerformsDump number command old reply new

-- Memory ended before a command was answered: the first of its calls were made.

pub record CutsRows (command : RowCommand) (old new : DatabaseStage) : Type 0 where
  pub cut : CutsAnswer old.access new.access (Performs command)
  pub files : new.files ≡ old.files
  pub replies : new.replies ≡ old.replies

-- no name and no byte of a file changed, no call on the files failed, and no name clashed
pub record CutsDump (command : WatchCommand) (old new : DatabaseStage) : Type 0 where
  pub cut : CutsWatch old.access new.access (PerformsWatch command old.files.seen new.files.seen)
  pub kept : Same old.files.seen new.files.seen
  pub faults : new.files.faults ≡ old.files.faults
  pub clashes : new.files.clashes ≡ old.files.clashes
  pub first : new.files.first ≡ old.files.first
  pub replies : new.replies ≡ old.replies

-- For watches or dumps it may have ended before any call, where what came of the files was to be noted.
abbrev pub BreaksDatabase : DatabaseCommand → (old new : DatabaseStage) → Type 0
BreaksDatabase (Rows command) old new = CutsRows command old new
BreaksDatabase (Watches command) old new = (new ≡ old) ⊎ CutsDump command old new
