-- What a line of a script does to a session, and what it is answered.
use Rattle.std.specs.Prelude.{◌≡◌, ℕ, Bool, true, false, Option, Ok, Err}
use Rattle.odb_script.specs.declared.commands.Command.{Command}
use Rattle.odb_script.specs.declared.commands.Command.TheVariants.{Nothing, Exit, Declare, Run, Database}
use Rattle.odb_script.specs.declared.commands.RunCommand.{RunCommand}
use Rattle.odb_script.specs.declared.commands.RunCommand.TheVariants.{Events, Start, Stop, Pause, Resume}
use Rattle.odb_script.specs.declared.commands.Declaration.{Declaration}
use Rattle.odb_script.specs.declared.commands.DatabaseCommand.{DatabaseCommand}
use Rattle.odb_script.specs.declared.refusals.LineRefusal.TheVariants.{BadCommand as no_command}
use Rattle.odb_script.specs.Forms.{Read}
use Rattle.console.specs.declared.replies.Reply.{Reply}
use Rattle.console.specs.declared.replies.Reply.TheVariants.{Silent, BadCommand}
use Rattle.session_commands.specs.Stages.{SessionStage, with_quota}
use Rattle.session_commands.specs.SetupReplies.{DoesDeclaration}
use Rattle.console.specs.DatabaseLines.{BreaksDatabase, DoesDatabase, WithdrawsEntry}
use Rattle.session_commands.specs.RunLines.{BreaksStart, BreaksStop, ClosesRun, DoesPause, DoesResume, DoesStart, DoesStop, runs_on}

-- A declaration: what is declared changes as it says, and nothing else.
abbrev pub SetsUp : Declaration → (old : SessionStage) → Reply → (new : SessionStage) → Type 0
SetsUp declaration old reply new = DoesDeclaration declaration old.declared reply new.declared × (new ≡ record old { declared = new.declared })

-- A command for runs: `events` sets how many events the next runs have, and the others are done as above.
abbrev pub DoesRunCommand : RunCommand → (old : SessionStage) → Reply → (new : SessionStage) → Type 0
DoesRunCommand (Events count) old reply new = (reply ≡ Silent) × (new ≡ with_quota count old)
DoesRunCommand Start old reply new = DoesStart old.runs old reply new
DoesRunCommand Stop old reply new = DoesStop old.runs old reply new
DoesRunCommand Pause old reply new = DoesPause old.runs old reply new
DoesRunCommand Resume old reply new = DoesResume old.runs old reply new

-- a command of the online database
abbrev pub CallsDatabase : (number : ℕ) → DatabaseCommand → (old : SessionStage) → Reply → (new : SessionStage) → Type 0
CallsDatabase number command old reply new = DoesDatabase number command old.database reply new.database × (new ≡ record old { database = new.database })

-- what a command does in the line of this number
abbrev pub DoesCommand : (number : ℕ) → Command → (old : SessionStage) → Reply → (new : SessionStage) → Type 0
DoesCommand number Nothing old reply new = (reply ≡ Silent) × (new ≡ old)
DoesCommand number Exit old reply new = (reply ≡ Silent) × (new ≡ old)
DoesCommand number (Declare declaration) old reply new = SetsUp declaration old reply new
DoesCommand number (Run command) old reply new = DoesRunCommand command old reply new
DoesCommand number (Database command) old reply new = CallsDatabase number command old reply new

-- What the line of this number does: nothing but its reply where it is no command.
abbrev pub DoesScriptLine : (number : ℕ) → Read Command → (old : SessionStage) → Reply → (new : SessionStage) → Type 0
DoesScriptLine number (Err (no_command at)) old reply new = (reply ≡ BadCommand at) × (new ≡ old)
DoesScriptLine number (Ok command) old reply new = DoesCommand number command old reply new

-- Memory ended before the line of this number was answered, and so much was done of it. Only a start, a stop and the commands of
-- the online database take memory.

-- of a command for runs
abbrev pub BreaksRunCommand : RunCommand → (old new : SessionStage) → Type 0
BreaksRunCommand (Events count) old new = ⊥
BreaksRunCommand Start old new = BreaksStart old.runs old new
BreaksRunCommand Stop old new = BreaksStop old.runs old new
BreaksRunCommand Pause old new = ⊥
BreaksRunCommand Resume old new = ⊥

-- of any command
abbrev pub BreaksCommand : Command → (old new : SessionStage) → Type 0
BreaksCommand Nothing old new = ⊥
BreaksCommand Exit old new = ⊥
BreaksCommand (Declare declaration) old new = ⊥
BreaksCommand (Run command) old new = BreaksRunCommand command old new
BreaksCommand (Database command) old new = BreaksDatabase command old.database new.database × (new ≡ record old { database = new.database })

-- Memory was wanting in a line, by its command: never in one that could not be read.
abbrev pub BreaksScriptLine : (number : ℕ) → Read Command → (old new : SessionStage) → Type 0
BreaksScriptLine number (Err refusal) old new = ⊥
BreaksScriptLine number (Ok command) old new = BreaksCommand command old new

-- There was no memory for the text of the line of this number, the last that was answered: what was noted of it is taken out again.
abbrev pub WithdrawsLine : (number : ℕ) → (old new : SessionStage) → Type 0
WithdrawsLine number old new = WithdrawsEntry number old.database new.database × (new ≡ record old { database = new.database })

-- the first start of a session opens it
abbrev pub opens_session : Read Command → Bool
opens_session (Ok (Run Start)) = true
opens_session _ = false

-- What is done behind all lines.
abbrev pub ClosesScript : (old : SessionStage) → Option Reply → (new : SessionStage) → Type 0
ClosesScript old reply new = ClosesRun old.runs old reply new

-- and where memory ended in that
abbrev pub GivesUp : (old new : SessionStage) → Type 0
GivesUp old new = runs_on old.runs × BreaksStop old.runs old new
