-- What a command for watches or dumps does: the calls on the database that it makes, in order, each with the reply that it
-- got, whatever that is; what it does to the files of the database; and what it is answered, by its line and by these alone.
use Rattle.std.specs.Prelude.{◌≡◌, ◌≢◌, ◌⊎◌, ℕ, ◌≤◌, Bool, true, false, IsTrue, List, [], ◌∷◌, length, map, Option, Some, None, Result, Ok, Err}
use Rattle.daq_types.specs.declared.memory.NoMemory.{NoMemory}
use Rattle.daq_types.specs.Names.{IsFileName}
use Rattle.daq_io.specs.Seen.{Seen, Same}
use Rattle.odb_value.specs.declared.path_refusals.PathRefusal.{PathRefusal}
use Rattle.odb_tree.specs.declared.notes.Note.{Note}
use Rattle.odb_tree.specs.declared.refusals.OdbRefusal.{OdbRefusal}
use Rattle.odb_tree.specs.declared.entry.DatabaseEntry.TheVariants.{Find}
use Rattle.odb_text.specs.declared.acts.Loaded.{Loaded}
use Rattle.odb_text.specs.declared.acts.LoadRefusal.{LoadRefusal}
use Rattle.odb_text.specs.declared.acts.LoadRefusal.TheVariants as load
use Rattle.odb_text.specs.Dumps.{dump_limit}
use Rattle.odb_watch.specs.declared.notes.NoWatch.{NoWatch as no_watch}
use Rattle.odb_watch.specs.declared.notes.WatchRefusal.{WatchRefusal}
use Rattle.odb_watch.specs.declared.notes.WatchRefusal.TheVariants as watch
use Rattle.odb_watch.specs.declared.entry.WatchEntry.{WatchEntry}
use Rattle.odb_watch.specs.declared.entry.WatchEntry.TheVariants as call
use Rattle.odb_watch.specs.DatabasePorts.{DatabaseAccess, AddsEntries, IsSettled, unanswered}
use Rattle.odb_commands.specs.declared.dump_replies.FileReply.{FileReply}
use Rattle.odb_commands.specs.declared.dump_replies.FileReply.TheVariants as file
use Rattle.odb_commands.specs.declared.dump_replies.FileRead.{FileRead}
use Rattle.odb_commands.specs.declared.dump_replies.FileRead.TheVariants as was
use Rattle.odb_commands.specs.FileReplies.{FaultsOf, ClashesOf, NamesFault}
use Rattle.odb_commands.specs.WholeFiles.{ReadsFile, WritesFile}
use Rattle.odb_commands.specs.declared.watch_replies.ToldNote.{ToldNote}
use Rattle.odb_commands.specs.declared.watch_replies.WatchCommandRefusal.{WatchCommandRefusal}
use Rattle.odb_commands.specs.declared.watch_replies.WatchCommandRefusal.TheVariants.{Path, Database, NoWatch, BadFileName, Missing, FileFault, TooLong}
use Rattle.odb_commands.specs.declared.watch_replies.WatchReply.{WatchReply}
use Rattle.odb_commands.specs.declared.watch_replies.WatchReply.TheVariants.{Told, Refused}
use Rattle.odb_commands.specs.declared.watch_replies.WatchAnswer.{WatchAnswer}
use Rattle.odb_commands.specs.WatchAnswers.{said, refused_for, said_with, watching_or, ended_or, loaded_or, saved_or, note_told, path_asked}

-- no call, and this answer
abbrev pub TellsAtOnce : WatchAnswer → (calls : List WatchEntry) → (answer : WatchAnswer) → Type 0
TellsAtOnce told calls answer = (calls ≡ []) × (answer ≡ told)

-- a text that is no path is refused before any call
abbrev pub OnPath : Result (List (List ℕ)) PathRefusal → (List (List ℕ) → List WatchEntry → WatchAnswer → Type 0) → (calls : List WatchEntry) → (answer : WatchAnswer) → Type 0
OnPath (Err why) Then calls answer = TellsAtOnce (refused_for (Path why)) calls answer
OnPath (Ok p) Then calls answer = Then p calls answer

-- `watch`: the path is found, and then its row is watched

-- memory was not wanting for a watch
abbrev pub IsWatchSettled : Result ℕ WatchRefusal → Type 0
IsWatchSettled (Ok w) = Unit {0}
IsWatchSettled (Err refusal) = refusal ≢ watch.NoMemory

abbrev pub WatchesRow : (row : ℕ) → (calls : List WatchEntry) → (answer : WatchAnswer) → Type 0
WatchesRow row calls answer = (got : Result ℕ WatchRefusal) × (calls ≡ call.Watch row got ∷ []) × IsWatchSettled got × (answer ≡ watching_or got)

abbrev pub WatchesFound : Result ℕ OdbRefusal → (calls : List WatchEntry) → (answer : WatchAnswer) → Type 0
WatchesFound (Err why) calls answer = TellsAtOnce (refused_for (Database why)) calls answer
WatchesFound (Ok row) calls answer = WatchesRow row calls answer

abbrev pub WatchesPath : List (List ℕ) → (calls : List WatchEntry) → (answer : WatchAnswer) → Type 0
WatchesPath p calls answer =
    (found : Result ℕ OdbRefusal) × (more : List WatchEntry) × (calls ≡ call.Call (Find p found) ∷ more) × IsSettled found × WatchesFound found more answer

-- `notes`: the notes are taken, and for each of them the path of its row is asked for

abbrev pub AsksPaths : List Note → (told : List ToldNote) → (calls : List WatchEntry) → Type 0
AsksPaths notes told calls = (map note_told told ≡ notes) × (calls ≡ map path_asked told)

abbrev pub TellsNotes : List Note → (lost : ℕ) → (calls : List WatchEntry) → (answer : WatchAnswer) → Type 0
TellsNotes notes lost calls answer = (told : List ToldNote) × AsksPaths notes told calls × (answer ≡ said (Told told lost))

abbrev pub TellsTaken : Result (List Note × ℕ) no_watch → (calls : List WatchEntry) → (answer : WatchAnswer) → Type 0
TellsTaken (Err e) calls answer = TellsAtOnce (refused_for NoWatch) calls answer
TellsTaken (Ok taken) calls answer = TellsNotes taken.0 taken.1 calls answer

abbrev pub TakesNotes : (w : ℕ) → (calls : List WatchEntry) → (answer : WatchAnswer) → Type 0
TakesNotes w calls answer = (got : Result (List Note × ℕ) no_watch) × (more : List WatchEntry) × (calls ≡ call.Notes w got ∷ more) × TellsTaken got more answer

-- `unwatch`: one call
abbrev pub EndsWatch : (w : ℕ) → (calls : List WatchEntry) → (answer : WatchAnswer) → Type 0
EndsWatch w calls answer = (got : Result (Unit {0}) no_watch) × (calls ≡ call.Unwatch w got ∷ []) × (answer ≡ ended_or got)

-- a text that is no name of a file is refused before any call, on the files too
abbrev pub OnFileName : (text : List ℕ) → (old new : Seen) → (List ℕ → List WatchEntry → WatchAnswer → Type 0) → (calls : List WatchEntry) → (answer : WatchAnswer) → Type 0
OnFileName text old new Then calls answer = (¬ IsFileName text × (new ≡ old) × TellsAtOnce (refused_for BadFileName) calls answer) ⊎ (IsFileName text × Then text calls answer)

-- `load`: the file is read, which changes no file; where it was read whole, its text is loaded by one call

-- memory was not wanting for the loading of a text
abbrev pub IsLoadSettled : Result Loaded LoadRefusal → Type 0
IsLoadSettled (Ok loaded) = Unit {0}
IsLoadSettled (Err refusal) = refusal ≢ load.NoMemory

abbrev pub LoadsWhole : (text : List ℕ) → (calls : List WatchEntry) → (answer : WatchAnswer) → Type 0
LoadsWhole text calls answer = (got : Result Loaded LoadRefusal) × (calls ≡ call.Load text got ∷ []) × IsLoadSettled got × (answer ≡ loaded_or got)

abbrev pub LoadsRead : FileRead → (calls : List WatchEntry) → (answer : WatchAnswer) → Type 0
LoadsRead (was.Whole text) calls answer = LoadsWhole text calls answer
LoadsRead was.Missing calls answer = TellsAtOnce (said_with file.Clash (Refused Missing)) calls answer
LoadsRead was.Fault calls answer = TellsAtOnce (said_with file.Fault (Refused FileFault)) calls answer
LoadsRead was.TooLong calls answer = TellsAtOnce (said_with file.TooLong (Refused TooLong)) calls answer

abbrev pub LoadsFile : (old new : Seen) → (name : List ℕ) → (calls : List WatchEntry) → (answer : WatchAnswer) → Type 0
LoadsFile old new name calls answer = (read : FileRead) × Same old new × ReadsFile old name read × LoadsRead read calls answer

-- `save`: the text of the database is saved, and then written to a new file of this name
abbrev pub SavesFile : (old new : Seen) → (name : List ℕ) → (calls : List WatchEntry) → (answer : WatchAnswer) → Type 0
SavesFile old new name calls answer =
    (text : List ℕ) × (came : FileReply) × (calls ≡ call.Save (Ok text) ∷ []) × WritesFile old new name text came × (answer ≡ saved_or (length text) came)

-- Calls were made that do so, and this is the answer.
pub record AnswersWatch (a b : DatabaseAccess) (Does : List WatchEntry → WatchAnswer → Type 0) (answer : WatchAnswer) : Type 0 where
  pub calls : List WatchEntry
  pub made : AddsEntries a b calls
  pub does : Does calls answer

-- the call where memory was wanting for it; taking notes and ending a watch take none
abbrev pub without_memory : WatchEntry → WatchEntry
without_memory (call.Call entry) = call.Call (unanswered entry)
without_memory (call.Watch row reply) = call.Watch row (Err watch.NoMemory)
without_memory (call.Notes w reply) = call.Notes w reply
without_memory (call.Unwatch w reply) = call.Unwatch w reply
without_memory (call.Save reply) = call.Save (Err (record {}))
without_memory (call.Load text reply) = call.Load text (Err load.NoMemory)

-- Of these calls the first were made, and the last of them may be the one for which memory was wanting.
abbrev pub BreaksOffCalls : (calls made : List WatchEntry) → Type 0
BreaksOffCalls calls [] = Unit {0}
BreaksOffCalls [] (e ∷ made) = ⊥
BreaksOffCalls (c ∷ calls) (e ∷ made) = ((e ≡ c) × BreaksOffCalls calls made) ⊎ ((e ≡ without_memory c) × (made ≡ []))

-- whether a reply takes memory behind the last call of its command: a file is read that has too many bytes

abbrev pub watch_refusal_takes_memory : WatchCommandRefusal → Bool
watch_refusal_takes_memory TooLong = true
watch_refusal_takes_memory _ = false

abbrev pub watch_reply_takes_memory : WatchReply → Bool
watch_reply_takes_memory (Refused why) = watch_refusal_takes_memory why
watch_reply_takes_memory _ = false

-- Memory ended before the answer: the first calls were made of some that do so, and all of them only where the reply takes
-- memory.
pub record CutsWatch (a b : DatabaseAccess) (Does : List WatchEntry → WatchAnswer → Type 0) : Type 0 where
  pub calls : List WatchEntry
  pub answer : WatchAnswer
  pub does : Does calls answer
  pub made : List WatchEntry
  pub short : BreaksOffCalls calls made
  pub rest : made ≡ calls → IsTrue (watch_reply_takes_memory answer.reply)
  pub adds : AddsEntries a b made

-- what a command that does this came to: its answer, or memory ended before that
abbrev pub EndsWatchCommand : (a b : DatabaseAccess) → (Does : List WatchEntry → WatchAnswer → Type 0) → Result WatchAnswer NoMemory → Type 0
EndsWatchCommand a b Does (Ok answer) = AnswersWatch a b Does answer
EndsWatchCommand a b Does (Err wanting) = CutsWatch a b Does

-- What the files of the database count of a command, by what its calls on them came to. One that makes none leaves the
-- counts.

abbrev pub FaultsIf : Option FileReply → (old new : ℕ) → Type 0
FaultsIf None old new = new ≡ old
FaultsIf (Some came) old new = FaultsOf came old new

abbrev pub ClashesIf : Option FileReply → (old new : ℕ) → Type 0
ClashesIf None old new = new ≡ old
ClashesIf (Some came) old new = ClashesOf came old new

abbrev pub NamesFaultIf : Option FileReply → (name : List ℕ) → (old new : Option (List ℕ)) → Type 0
NamesFaultIf None name old new = new ≡ old
NamesFaultIf (Some came) name old new = NamesFault came name old new

-- a text that was read is no longer than one that may be loaded
abbrev pub IsLoadable : FileRead → Type 0
IsLoadable (was.Whole text) = length text ≤ dump_limit
IsLoadable was.Missing = Unit {0}
IsLoadable was.Fault = Unit {0}
IsLoadable was.TooLong = Unit {0}
