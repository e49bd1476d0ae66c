-- What the lines of a script declare for its session: read off its text.
use Rattle.std.specs.Prelude.{◌≡◌, ℕ, true, if◌then◌else◌, List, [], ◌∷◌, Option, IfSome, Ok}
use Rattle.daq_io.specs.Told.{SourceTold}
use Rattle.odb_script.specs.declared.commands.Command.{Command}
use Rattle.odb_script.specs.declared.commands.Command.TheVariants.{Declare, Run}
use Rattle.odb_script.specs.declared.commands.RunCommand.TheVariants.{Start}
use Rattle.odb_script.specs.Forms.{Read, command_of}
use Rattle.session_setup.specs.Setup.{Declared, nothing_declared}
use Rattle.session_setup.specs.SetupLines.{opened_with_defaults}
use Rattle.session_objects.specs.declared.record.SessionRecord.{SessionRecord}
use Rattle.session_commands.specs.SetupReplies.{DoesDeclaration}
use Rattle.console.specs.declared.endings.Ending.{Ending}
use Rattle.console.specs.declared.replies.Reply.{Reply}
use Rattle.console.specs.Playing.{AreOfGiven}

-- what is declared behind a `start`: the first one completes it, and from there on it stays
abbrev pub opened_by_start : Declared → Declared
opened_by_start d = if d.opened then d else opened_with_defaults d

-- what a line with this reply makes of what was declared before it
abbrev pub LineDeclares : Read Command → (old : Declared) → Reply → (new : Declared) → Type 0
LineDeclares (Ok (Declare declaration)) old reply new = DoesDeclaration declaration old reply new
LineDeclares (Ok (Run Start)) old reply new = new ≡ opened_by_start old
LineDeclares line old reply new = new ≡ old

-- what lines make of it, one after the other
abbrev pub LinesDeclare : List (List ℕ) → List Reply → (old new : Declared) → Type 0
LinesDeclare [] [] old new = new ≡ old
LinesDeclare [] (reply ∷ replies) old new = ⊥
LinesDeclare (line ∷ lines) [] old new = ⊥
LinesDeclare (line ∷ lines) (reply ∷ replies) old new =
    (between : Declared) × LineDeclares (command_of line) old reply between × LinesDeclare lines replies between new

-- The declarations of the script of which a source gave its bytes meanwhile: those of its lines up to the first `start`, since a
-- declaration behind that is refused.
pub record IsDeclaredIn (source left : SourceTold) (declared : Declared) : Type 0 where
  pub lines : List (List ℕ)
  pub replies : List Reply
  pub ending : Ending
  pub given : AreOfGiven ending source left lines
  pub declares : LinesDeclare lines replies nothing_declared declared
  pub opened : declared.opened ≡ true

-- So it is with the session of this record, and the declarations of the script that opened it.
pub record ForDeclared {D : Type 0} {g : _} (source left : SourceTold) (P : Declared → SessionRecord D g → Type 0) (r : SessionRecord D g) : Type 0 where
  pub declared : Declared
  pub in_script : IsDeclaredIn source left declared
  pub so : P declared r

-- So it is with the session of which a record is kept, if one was opened.
abbrev pub ForSession : {D : Type 0} {g : _} → Option (SessionRecord D g) → (source left : SourceTold) →
    (Declared → SessionRecord D g → Type 0) → Type 0
ForSession kept source left P = IfSome kept (ForDeclared source left P)
