-- A line of a script by its kind: what it changes of a session, whatever its form.
use Rattle.std.proofs.Common.{◌≡◌, ℕ, true, false, refl, sym, subst}
use Rattle.std.specs.Prelude.{Bool, Ok, Err}
use Rattle.odb_script.specs.declared.commands.Command.{Command}
use Rattle.odb_script.specs.declared.commands.Command.TheVariants.{Nothing, Exit, Declare, Run, Database}
use Rattle.odb_script.specs.declared.commands.RunCommand.TheVariants.{Events, Start, Stop, Pause, Resume}
use Rattle.odb_script.specs.declared.commands.DatabaseCommand.{DatabaseCommand}
use Rattle.odb_script.specs.declared.refusals.LineRefusal.TheVariants.{BadCommand as no_command}
use Rattle.odb_script.specs.Forms.{Read}
use Rattle.console.specs.declared.replies.Reply.{Reply}
use Rattle.session_setup.specs.Setup.{Declared}
use Rattle.console.specs.DatabaseLines.{BreaksDatabase, DoesDatabase}
use Rattle.session_commands.specs.Stages.{SessionStage, with_quota}
use Rattle.session_commands.specs.SetupReplies.{SetupUnless}
use Rattle.session_commands.specs.RunLines.{BreaksStart, BreaksStop, DoesPause, DoesResume, DoesStart, DoesStop}
use Rattle.session_commands.specs.ScriptLines.{BreaksCommand, BreaksScriptLine, CallsDatabase, DoesCommand, DoesScriptLine}

-- It changes nothing; it declares something, unless the session was opened; it sets the quota; it is a command of runs; or it calls
-- the online database.
pub data LineKind (number : ℕ) (line : Read Command) (old : SessionStage) (reply : Reply) (new : SessionStage) : Type 0 where
  IsStill : new ≡ old → LineKind number line old reply new
  Declares : (old.declared.opened ≡ true → new.declared ≡ old.declared) → new ≡ record old { declared = new.declared } → LineKind number line old reply new
  SetsQuota : (count : ℕ) → new ≡ with_quota count old → LineKind number line old reply new
  IsStart : DoesStart old.runs old reply new → LineKind number line old reply new
  IsStop : DoesStop old.runs old reply new → LineKind number line old reply new
  IsPause : DoesPause old.runs old reply new → LineKind number line old reply new
  IsResume : DoesResume old.runs old reply new → LineKind number line old reply new
  CallsRows : (command : DatabaseCommand) → line ≡ Ok (Database command) → CallsDatabase number command old reply new → LineKind number line old reply new

-- an open session declares nothing more
opened_same : (opened : Bool) (Then : Type 0) (old : Declared) (reply : Reply) (new : Declared) → SetupUnless opened Then old reply new → opened ≡ true → new ≡ old
opened_same true Then old reply new does is = does.1
opened_same false Then old reply new does is = absurd (cc is)

command_kind : (number : ℕ) (command : Command) (old : SessionStage) (reply : Reply) (new : SessionStage) → DoesCommand number command old reply new → LineKind number (Ok command) old reply new
command_kind number Nothing old reply new does = IsStill does.1
command_kind number Exit old reply new does = IsStill does.1
command_kind number (Declare declaration) old reply new does = Declares (opened_same old.declared.opened _ old.declared reply new.declared does.0) does.1
command_kind number (Run (Events count)) old reply new does = SetsQuota count does.1
command_kind number (Run Start) old reply new does = IsStart does
command_kind number (Run Stop) old reply new does = IsStop does
command_kind number (Run Pause) old reply new does = IsPause does
command_kind number (Run Resume) old reply new does = IsResume does
command_kind number (Database command) old reply new does = CallsRows command refl does

pub line_kind : (number : ℕ) (line : Read Command) (old : SessionStage) (reply : Reply) (new : SessionStage) → DoesScriptLine number line old reply new → LineKind number line old reply new
line_kind number (Err (no_command at)) old reply new does = IsStill does.1
line_kind number (Ok command) old reply new does = command_kind number command old reply new does

-- Where memory ended: in a start, in a stop, or in a command of the online database.
pub data LineCut (old new : SessionStage) : Type 0 where
  CutsStartLine : BreaksStart old.runs old new → LineCut old new
  CutsStopLine : BreaksStop old.runs old new → LineCut old new
  CutsCalls : (command : DatabaseCommand) → BreaksDatabase command old.database new.database → new ≡ record old { database = new.database } → LineCut old new

command_cut : (command : Command) (old new : SessionStage) → BreaksCommand command old new → LineCut old new
command_cut Nothing old new broke = absurd broke
command_cut Exit old new broke = absurd broke
command_cut (Declare declaration) old new broke = absurd broke
command_cut (Run (Events count)) old new broke = absurd broke
command_cut (Run Start) old new broke = CutsStartLine broke
command_cut (Run Stop) old new broke = CutsStopLine broke
command_cut (Run Pause) old new broke = absurd broke
command_cut (Run Resume) old new broke = absurd broke
command_cut (Database command) old new broke = CutsCalls command broke.0 broke.1

pub line_cut : (number : ℕ) (line : Read Command) (old new : SessionStage) → BreaksScriptLine number line old new → LineCut old new
line_cut number (Err refusal) old new broke = absurd broke
line_cut number (Ok command) old new broke = command_cut command old new broke

-- The commands of the online database, as lines.

pub called_line : (number : ℕ) (line : Read Command) (command : DatabaseCommand) (old : SessionStage) (reply : Reply) (new : SessionStage) → line ≡ Ok (Database command) → DoesDatabase number command old.database reply new.database → new ≡ record old { database = new.database }
    → DoesScriptLine number line old reply new
called_line number line command old reply new at does same = subst (λ (x : Read Command). DoesScriptLine number x old reply new) (sym at) (does, same)

pub cut_called : (number : ℕ) (line : Read Command) (command : DatabaseCommand) (old new : SessionStage) → line ≡ Ok (Database command) → BreaksDatabase command old.database new.database → new ≡ record old { database = new.database }
    → BreaksScriptLine number line old new
cut_called number line command old new at broke same = subst (λ (x : Read Command). BreaksScriptLine number x old new) (sym at) (broke, same)
