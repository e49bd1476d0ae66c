-- What a script leaves to be asked at its end.
use Rattle.daq_io.specs.Told.{FilesTold}
use Rattle.std.specs.Prelude.{◌≤◌, ◌++◌, ◌∷◌, [], Ok, ℕ, Bool, true, false, count_by, List}
use Rattle.daq_io.specs.Counts.{Rose, RoseBy}
use Rattle.member_model.specs.RunEngines.{EngineEntry}
use Rattle.transitions.specs.declared.entry.EngineEntry.TheVariants.{Close}
use Rattle.odb_commands.specs.declared.dump_replies.FileReply.{FileReply}
use Rattle.odb_commands.specs.declared.dump_replies.FileReply.TheVariants as file
use Rattle.console.specs.declared.endings.Ending.{Ending}
use Rattle.console.specs.declared.endings.Ending.TheVariants.{End, TooLong, SourceFault, Halted}

-- whether this came of a line that called the files of the database
abbrev pub is_fault : ℕ × FileReply → Bool
is_fault (number, file.Done) = false
is_fault (number, file.Clash) = false
is_fault (number, file.Fault) = true
is_fault (number, file.TooLong) = false

-- whether it was refused for a file's name
abbrev pub is_clash : ℕ × FileReply → Bool
is_clash (number, file.Done) = false
is_clash (number, file.Clash) = true
is_clash (number, file.Fault) = false
is_clash (number, file.TooLong) = false

-- One fault gives one reply: the files of the dumps counted a fault for each of these that is one, and a clash of names for each
-- that is one.
pub record OneReply (replies : List (ℕ × FileReply)) (first final : FilesTold) : Type 0 where
  pub faults : RoseBy (count_by is_fault replies) first.faults final.faults
  pub clashes : RoseBy (count_by is_clash replies) first.clashes final.clashes

-- whether a call on files failed, against their count of faults
abbrev pub NotesFailed : (failed : Bool) → (old new : ℕ) → Type 0
NotesFailed true old new = Rose old new
NotesFailed false old new = new ≤ old

-- the main thread's calls on the engine, with which it is closed
abbrev pub closing_calls : List EngineEntry → List EngineEntry
closing_calls own = own ++ Close (Ok tt) ∷ []

-- whether the files are asked for a fault, as a script ended so: at its end, or where it is too long
abbrev pub asks_files : Ending → Bool
asks_files End = true
asks_files TooLong = true
asks_files SourceFault = false
asks_files (Halted halt) = false
