-- The lines of a script, as something answers them one after the other, and what is written of that. What answers them is seen
-- as where it stands between two lines; what a line does to that is said by what answers.
use Rattle.std.specs.Prelude.{◌≡◌, ℕ, ◌+◌, ◌<◌, ◌≤◌, Bool, true, false, List, [], ◌∷◌, ◌++◌, length, take, Option, Some, None, Result, Ok, Err, ◌⊎◌, ⊤}
use Rattle.std.specs.Io.KnownBytes.{Appends, Keeps}
use Rattle.daq_io.specs.Streams.{AppendsPart, LeavesOver}
use Rattle.daq_io.specs.Told.{SourceTold}
use Rattle.odb_script.specs.declared.commands.Command.{Command}
use Rattle.odb_script.specs.Forms.{Read, command_of}
use Rattle.odb_script.specs.Lines.{Reading, lines_of, script_limit}
use Rattle.odb_script.specs.ReadLines.{AreGivenLines, HasReadLines}
use Rattle.odb_script.specs.Exits.{GoOn, StopAtExit, is_exit, until_exit}
use Rattle.console.specs.declared.going.Going.{Going}
use Rattle.console.specs.declared.going.Going.TheVariants as going
use Rattle.console.specs.declared.halts.Halt.{Halt}
use Rattle.console.specs.declared.halts.Halt.TheVariants.{NoMemory, SinkFault}
use Rattle.console.specs.declared.endings.Ending.{Ending}
use Rattle.console.specs.declared.endings.Ending.TheVariants.{End, TooLong, SourceFault, Halted}
use Rattle.console.specs.declared.play_end.PlayEnd.{PlayEnd}
use Rattle.console.specs.declared.play_end.PlayEnd.TheVariants as ends
use Rattle.console.specs.Reading.{ReadsNext}
use Rattle.console.specs.declared.replies.Reply.{Reply}
use Rattle.console.specs.declared.refusals.Refusals.{Refusals}
use Rattle.console.specs.Console.{text_of, console_text, refuses_line, refused_lines}
use Rattle.console.specs.Refused.{refusals_after, CountsRefusals}

-- One line.

-- the script goes on behind a command; or it does not, behind an `exit` and behind the last line
abbrev pub GoesBehind : Going → (last : Bool) → Read Command → Type 0
GoesBehind going.On last command = (is_exit command ≡ false) × (last ≡ false)
GoesBehind going.End last command = (is_exit command ≡ true) ⊎ (last ≡ true)
GoesBehind going.Opens last command = ⊥

-- how many lines are answered behind that one
abbrev pub number_behind : Going → ℕ → ℕ
number_behind going.On number = number + 1
number_behind going.End number = number + 1
number_behind going.Opens number = number

-- a text was written; or a part of it and not all, where the sink failed; or nothing, for want of memory
abbrev pub Prints : (told_old told_new : Option (List ℕ)) → List ℕ → Result (Unit {0}) Halt → Type 0
Prints told_old told_new text (Ok done) = Appends told_old told_new text
Prints told_old told_new text (Err SinkFault) = AppendsPart told_old told_new text × LeavesOver told_old told_new text
Prints told_old told_new text (Err NoMemory) = Keeps told_old told_new

-- The line is left to another, and nothing happened.
pub record LeavesLine {St : Type 0} (leaves : Read Command → Bool) (line : List ℕ) (old new : St) (told_old told_new : Option (List ℕ)) (was now : Refusals) : Type 0 where
  pub left : leaves (command_of line) ≡ true
  pub stage : new ≡ old
  pub told : told_new ≡ told_old
  pub same : now ≡ was

module _ {St : Type 0} (does : (number : ℕ) → Read Command → St → Reply → St → Type 0) where
  -- The line of this number was answered, and noted where it was refused.
  pub record Replied (line : List ℕ) (number : ℕ) (reply : Reply) (old new : St) (was now : Refusals) : Type 0 where
    pub answers : does number (command_of line) old reply new
    pub is_noted : now ≡ refusals_after was number (refuses_line reply)

  -- What lines do, one after the other, of which the first has this number, with their replies.
  abbrev pub PlaysFrom : (number : ℕ) → List (List ℕ) → List Reply → (old new : St) → Type 0
  PlaysFrom number [] [] old new = new ≡ old
  PlaysFrom number [] (reply ∷ replies) old new = ⊥
  PlaysFrom number (line ∷ lines) [] old new = ⊥
  PlaysFrom number (line ∷ lines) (reply ∷ replies) old new =
      (between : St) × does number (command_of line) old reply between × PlaysFrom (number + 1) lines replies between new

  -- Between two lines: the first so many were answered, none of them an `exit`, and their text was written.
  pub record IsBetween (first : St) (source_first source_now : SourceTold) (told_first told_now : Option (List ℕ)) (reading : Reading) (now : St) (refusals : Refusals) (number : ℕ) : Type 0 where
    pub lines : List (List ℕ)
    pub replies : List Reply
    pub plays : PlaysFrom 1 lines replies first now
    pub counts : CountsRefusals (refused_lines 1 replies) refusals
    pub read : HasReadLines source_first source_now reading lines
    pub go_on : GoOn lines
    pub wrote : Appends told_first told_now (console_text 1 replies)
    pub is_number : length lines ≡ number
    pub numbered : length replies ≡ length lines

-- The lines as they ended.

-- The lines are the whole script: up to its first `exit`, or to the end of a text that is not too long.
pub record AreWhole (text : List ℕ) (lines : List (List ℕ)) : Type 0 where
  pub lines_are : lines ≡ until_exit (lines_of text)
  pub ends : StopAtExit lines ⊎ length text ≤ script_limit

-- They are those of a script that is too long, without an `exit` before its limit.
pub record AreTooMany (text : List ℕ) (lines : List (List ℕ)) : Type 0 where
  pub lines_are : lines ≡ until_exit (lines_of text)
  pub go_on : GoOn lines
  pub longer : script_limit < length text

-- They are the lines that the source gave with their ends before it failed, without an `exit`.
pub record AreGiven (text : List ℕ) (left : Option (List ℕ)) (lines : List (List ℕ)) : Type 0 where
  pub given : AreGivenLines text left lines
  pub go_on : GoOn lines

-- they are the first lines of the script
abbrev pub AreFirst : (text : List ℕ) → List (List ℕ) → Type 0
AreFirst text lines = lines ≡ take (length lines) (until_exit (lines_of text))

-- The lines that were answered, of the script's text, of which this was left in the source.
abbrev pub AreLines : Ending → (text : List ℕ) → (left : Option (List ℕ)) → List (List ℕ) → Type 0
AreLines End text left lines = AreWhole text lines
AreLines TooLong text left lines = AreTooMany text lines
AreLines SourceFault text left lines = AreGiven text left lines
AreLines (Halted halt) text left lines = AreFirst text lines

-- The lines that were answered, of the bytes that came of the script, of which nothing is left: those that the source gave
-- meanwhile.
pub record AreOfGiven (ending : Ending) (source left : SourceTold) (lines : List (List ℕ)) : Type 0 where
  pub came : List ℕ
  pub gave : left.gave ≡ source.gave ++ came
  pub are : AreLines ending came (Some []) lines

-- This is the next line behind these, of the script's text and of what came of it.
pub record IsNext (source left : SourceTold) (lines : List (List ℕ)) (line : List ℕ) : Type 0 where
  pub of_text : (text : List ℕ) → source.left ≡ Some text → AreFirst text (lines ++ line ∷ [])
  pub came : List ℕ
  pub gave : left.gave ≡ source.gave ++ came
  pub of_came : AreFirst came (lines ++ line ∷ [])

-- The replies but for the last were written whole, and of the last a first part, and not all of it.
pub record WroteUpTo (told_first told_now : Option (List ℕ)) (replies : List Reply) : Type 0 where
  pub before : List Reply
  pub last : Reply
  pub replies_are : replies ≡ before ++ last ∷ []
  pub told : Option (List ℕ)
  pub whole : Appends told_first told (console_text 1 before)
  pub part : AppendsPart told told_now (text_of (1 + length before) last)
  pub short : LeavesOver told told_now (text_of (1 + length before) last)

-- All replies were written, and what was noted of their lines stays.
pub record WroteAll {St : Type 0} (told_first told_now : Option (List ℕ)) (replies : List Reply) (old new : St) : Type 0 where
  pub whole : Appends told_first told_now (console_text 1 replies)
  pub stays : new ≡ old

module _ {St : Type 0} (withdraws : (number : ℕ) → (old new : St) → Type 0) where
  -- The replies but for the last were written whole, and nothing of the last; what was noted of its line is taken out again.
  pub record WroteBut (told_first told_now : Option (List ℕ)) (replies : List Reply) (old new : St) : Type 0 where
    pub before : List Reply
    pub last : Reply
    pub replies_are : replies ≡ before ++ last ∷ []
    pub whole : Appends told_first told_now (console_text 1 before)
    pub withdrew : withdraws (1 + length before) old new

  -- What was written of the replies to the lines, by how these ended: all; of the last only a first part where the sink failed, with
  -- which the lines end; and maybe nothing of the last where there was no memory: then what was noted of its line does not stay.
  abbrev pub Wrote : Ending → (told_first told_now : Option (List ℕ)) → List Reply → (old new : St) → Type 0
  Wrote End told_first told_now replies old new = WroteAll told_first told_now replies old new
  Wrote TooLong told_first told_now replies old new = WroteAll told_first told_now replies old new
  Wrote SourceFault told_first told_now replies old new = WroteAll told_first told_now replies old new
  Wrote (Halted SinkFault) told_first told_now replies old new = WroteUpTo told_first told_now replies × (new ≡ old)
  Wrote (Halted NoMemory) told_first told_now replies old new =
      WroteAll told_first told_now replies old new ⊎ WroteBut told_first told_now replies old new

module _ {St : Type 0} (does : (number : ℕ) → Read Command → St → Reply → St → Type 0) (breaks : (number : ℕ) → Read Command → St → St → Type 0) where
  -- Behind the lines that were answered one more was read, which is not answered yet. What it does as things stand now it does
  -- as those lines left them.
  pub record HasLine (first : St) (source_first source_now : SourceTold) (told_first told_now : Option (List ℕ)) (reading : Reading) (last : Bool) (now : St) (refusals : Refusals) (number : ℕ) : Type 0 where
    pub source_old : SourceTold
    pub reading_old : Reading
    pub stood : St
    pub between : IsBetween does first source_first source_old told_first told_now reading_old stood refusals number
    pub line : List ℕ
    pub next : ReadsNext last reading_old reading source_old source_now line
    pub answers_so : (reply : Reply) → (new : St) → does (number + 1) (command_of line) now reply new → does (number + 1) (command_of line) stood reply new
    pub breaks_so : (new : St) → breaks (number + 1) (command_of line) now new → breaks (number + 1) (command_of line) stood new

  -- The line found no memory, and nothing was written.
  pub record Unanswered (line : List ℕ) (number : ℕ) (old new : St) (told_old told_new : Option (List ℕ)) (was now : Refusals) : Type 0 where
    pub broke : breaks number (command_of line) old new
    pub same : now ≡ was
    pub kept : Keeps told_old told_new

  -- the next line found no memory, and so much was done of it
  pub record BreaksAt (source left : SourceTold) (lines : List (List ℕ)) (old new : St) : Type 0 where
    pub line : List ℕ
    pub next : IsNext source left lines line
    pub broke : breaks (1 + length lines) (command_of line) old new

  -- Behind the last line that was answered the next one may have found no memory.
  abbrev pub CutBy : Ending → (source left : SourceTold) → (lines : List (List ℕ)) → (old new : St) → Type 0
  CutBy End source left lines old new = new ≡ old
  CutBy TooLong source left lines old new = new ≡ old
  CutBy SourceFault source left lines old new = new ≡ old
  CutBy (Halted NoMemory) source left lines old new = (new ≡ old) ⊎ BreaksAt source left lines old new
  CutBy (Halted SinkFault) source left lines old new = new ≡ old

  -- A line was read that is left to another.
  pub record OpensAt (leaves : Read Command → Bool) (first : St) (source_first source_now : SourceTold) (told_first told_now : Option (List ℕ)) (reading : Reading) (last : Bool) (now : St) (refusals : Refusals) (number : ℕ) : Type 0 where
    pub has : HasLine first source_first source_now told_first told_now reading last now refusals number
    pub left : leaves (command_of has.line) ≡ true

module _ {St : Type 0} (does : (number : ℕ) → Read Command → St → Reply → St → Type 0) (breaks : (number : ℕ) → Read Command → St → St → Type 0)
    (withdraws : (number : ℕ) → (old new : St) → Type 0) where
  -- The line was answered, and there was no memory for its text: nothing was written, and what was noted of it is taken out again.
  pub record Unprinted (line : List ℕ) (number : ℕ) (old new : St) (told_old told_new : Option (List ℕ)) (was now : Refusals) : Type 0 where
    pub reply : Reply
    pub answered : St
    pub replied : Replied does line number reply old answered was now
    pub withdrew : withdraws number answered new
    pub kept : Keeps told_old told_new

  -- What becomes of the line of this number: it is answered and its text is written; or it is left to another; or it is answered
  -- and its text is not written whole; or it is answered, and there is no memory for its text, so what was noted of it is taken out
  -- again; or it is not answered.
  abbrev pub DoesLine : (leaves : Read Command → Bool) → (line : List ℕ) (number : ℕ) (last : Bool) (old new : St) (told_old told_new : Option (List ℕ)) (was now : Refusals) → Result Going Halt → Type 0
  DoesLine leaves line number last old new told_old told_new was now (Ok going.On) = (reply : Reply) × Replied does line number reply old new was now × Appends told_old told_new (text_of number reply) × GoesBehind going.On last (command_of line)
  DoesLine leaves line number last old new told_old told_new was now (Ok going.End) = (reply : Reply) × Replied does line number reply old new was now × Appends told_old told_new (text_of number reply) × GoesBehind going.End last (command_of line)
  DoesLine leaves line number last old new told_old told_new was now (Ok going.Opens) = LeavesLine leaves line old new told_old told_new was now
  DoesLine leaves line number last old new told_old told_new was now (Err SinkFault) =
      (reply : Reply) × Replied does line number reply old new was now × AppendsPart told_old told_new (text_of number reply) × LeavesOver told_old told_new (text_of number reply)
  DoesLine leaves line number last old new told_old told_new was now (Err NoMemory) =
      Unprinted line number old new told_old told_new was now ⊎ Unanswered does breaks line number old new told_old told_new was now

  -- A script was played up to this ending, and this is left in the source.
  pub record Played (first : St) (ending : Ending) (source left : SourceTold) (told_first told_now : Option (List ℕ)) (now : St) (refusals : Refusals) : Type 0 where
    pub lines : List (List ℕ)
    pub replies : List Reply
    pub behind : St
    pub plays : PlaysFrom does 1 lines replies first behind
    pub noted : St
    pub wrote : Wrote withdraws ending told_first told_now replies behind noted
    pub cut : CutBy does breaks ending source left lines noted now
    pub counts : CountsRefusals (refused_lines 1 replies) refusals
    pub are_lines : (text : List ℕ) → source.left ≡ Some text → AreLines ending text left.left lines
    pub given : AreOfGiven ending source left lines
    pub numbered : length replies ≡ length lines

  -- where the lines of a script stand that are not answered on
  abbrev pub PlaysTo : (leaves : Read Command → Bool) (first : St) (source_first : SourceTold) (told_first : Option (List ℕ)) → PlayEnd → (source_now : SourceTold) (told_now : Option (List ℕ)) (reading : Reading) (last : Bool) (now : St) (refusals : Refusals) (number : ℕ) → Type 0
  PlaysTo leaves first source_first told_first (ends.Ended ending) source_now told_now reading last now refusals number =
      Played first ending source_first source_now told_first told_now now refusals
  PlaysTo leaves first source_first told_first ends.Opens source_now told_now reading last now refusals number =
      OpensAt does breaks leaves first source_first source_now told_first told_now reading last now refusals number

  -- The lines are answered on from the one that was read, wherever the script began.
  abbrev pub PlaysOn : (leaves : Read Command → Bool) → PlayEnd → (source_old source_new : SourceTold) (told_old told_new : Option (List ℕ)) (reading_old reading_new : Reading) (last_old last_new : Bool) (old new : St) (was now : Refusals) (number_old number_new : ℕ) → Type 0
  PlaysOn leaves end source_old source_new told_old told_new reading_old reading_new last_old last_new old new was now number_old number_new =
      (first : St) (source_first : SourceTold) (told_first : Option (List ℕ)) → HasLine does breaks first source_first source_old told_first told_old reading_old last_old old was number_old
      → PlaysTo leaves first source_first told_first end source_new told_new reading_new last_new new now number_new

-- a line that is left to another is counted among the bytes that were read
abbrev pub FitsOn : PlayEnd → (number taken : ℕ) → Type 0
FitsOn (ends.Ended ending) number taken = ⊤
FitsOn ends.Opens number taken = number + 1 ≤ taken

-- where one is left to another, there is such a line
abbrev pub LeftLine : (leaves : Read Command → Bool) → PlayEnd → Type 0
LeftLine leaves (ends.Ended ending) = ⊤
LeftLine leaves ends.Opens = (line : Read Command) × (leaves line ≡ true)
