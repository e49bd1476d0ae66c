-- How a script is closed behind its last line, and how it ended with that.
use Rattle.std.specs.Prelude.{◌≡◌, ℕ, Bool, true, false, List, [], ◌∷◌, ◌++◌, length, Option, Some, None, ⊤, ◌⊎◌}
use Rattle.std.specs.Io.KnownBytes.{Appends, Keeps}
use Rattle.daq_io.specs.Streams.{AppendsPart, LeavesOver}
use Rattle.daq_io.specs.Told.{SourceTold}
use Rattle.odb_script.specs.declared.commands.Command.{Command}
use Rattle.odb_script.specs.Forms.{Read}
use Rattle.console.specs.declared.halts.Halt.{Halt}
use Rattle.console.specs.declared.halts.Halt.TheVariants.{NoMemory, SinkFault}
use Rattle.console.specs.declared.endings.Ending.{Ending}
use Rattle.console.specs.declared.endings.Ending.TheVariants.{End, TooLong, SourceFault, Halted}
use Rattle.console.specs.Endings.{SinkByEnding, SourceByEnding}
use Rattle.console.specs.Halts.{SinkBy}
use Rattle.console.specs.Playing.{AreLines, AreOfGiven, CutBy, Played, PlaysFrom, Wrote}
use Rattle.console.specs.declared.replies.Reply.{Reply}
use Rattle.console.specs.declared.refusals.Refusals.{Refusals}
use Rattle.console.specs.Console.{console_text, refused_lines}
use Rattle.console.specs.Refused.{CountsRefusals}

-- whether anything more may be printed behind the lines
abbrev pub prints : Ending → Bool
prints End = true
prints TooLong = true
prints SourceFault = true
prints (Halted halt) = false

-- What may fail behind the lines: the sink only where anything is printed.
abbrev pub MayFail : Ending → Option Halt → Type 0
MayFail ending (Some NoMemory) = ⊤
MayFail ending (Some SinkFault) = prints ending ≡ true
MayFail ending None = ⊤

-- The earlier of two causes: of an ending, and of a halt behind it. Want of memory comes first, then the source, then the
-- sink, and last the script's length.
abbrev pub earlier : Ending → Halt → Ending
earlier End halt = Halted halt
earlier TooLong halt = Halted halt
earlier SourceFault NoMemory = Halted NoMemory
earlier SourceFault SinkFault = SourceFault
earlier (Halted NoMemory) halt = Halted NoMemory
earlier (Halted SinkFault) halt = Halted halt

-- how a script ended whose lines ended so, and behind which this failed
abbrev pub ended_by : Ending → (closing : Option Halt) → Ending
ended_by ending None = ending
ended_by ending (Some halt) = earlier ending halt

-- the count of faults of the sink behind the lines
abbrev pub SinkBehind : (closing : Option Halt) → (old new : ℕ) → Type 0
SinkBehind None old new = new ≡ old
SinkBehind (Some halt) old new = SinkBy halt old new

-- A script whose lines ended so, and behind which this failed, left the counts of faults of its source and of its sink so: the
-- sink's was `lines` behind the lines.
pub record EndCounts (ending : Ending) (closing : Option Halt) (source source_later sink sink_later : ℕ) : Type 0 where
  pub may : MayFail ending closing
  pub source_counts : SourceByEnding ending source source_later
  pub lines : ℕ
  pub sink_counts : SinkByEnding ending sink lines
  pub behind : SinkBehind closing lines sink_later

-- the reply of what was done behind the lines, if it has one
abbrev pub reply_list : Option Reply → List Reply
reply_list None = []
reply_list (Some reply) = reply ∷ []

-- the text of the replies to a script's lines, and behind it that of what was done behind them, which stands at no line
abbrev pub script_text : (replies behind : List Reply) → List ℕ
script_text replies behind = console_text 1 replies ++ console_text 0 behind

-- What was written behind the lines: all; a first part, and not all, where the sink failed; and nothing where there was no memory.
abbrev pub WroteMore : (closing : Option Halt) → (told_lines told_now : Option (List ℕ)) → (behind : List Reply) → Type 0
WroteMore None told_lines told_now behind = Appends told_lines told_now (console_text 0 behind)
WroteMore (Some SinkFault) told_lines told_now behind =
    AppendsPart told_lines told_now (console_text 0 behind) × LeavesOver told_lines told_now (console_text 0 behind)
WroteMore (Some NoMemory) told_lines told_now behind = Keeps told_lines told_now

-- Nothing at all is written behind lines that ended for want of memory or at a fault of the sink.
abbrev pub WroteBehind : Ending → (closing : Option Halt) → (told_lines told_now : Option (List ℕ)) → (behind : List Reply) → Type 0
WroteBehind End closing told_lines told_now behind = WroteMore closing told_lines told_now behind
WroteBehind TooLong closing told_lines told_now behind = WroteMore closing told_lines told_now behind
WroteBehind SourceFault closing told_lines told_now behind = WroteMore closing told_lines told_now behind
WroteBehind (Halted halt) closing told_lines told_now behind = Keeps told_lines told_now

module _ {St : Type 0} (closes : St → Option Reply → St → Type 0) (gives_up : St → St → Type 0) where
  -- What was on behind the lines was ended, with this reply.
  pub record IsClosed (behind : List Reply) (old new : St) : Type 0 where
    pub reply : Option Reply
    pub closed : closes old reply new
    pub is : behind ≡ reply_list reply

  -- There was no memory for that.
  pub record GaveUp (closing : Option Halt) (behind : List Reply) (old new : St) : Type 0 where
    pub closing_is : closing ≡ Some NoMemory
    pub gave_up : gives_up old new
    pub is : behind ≡ []

  abbrev pub ClosesBy : (closing : Option Halt) (behind : List Reply) (old new : St) → Type 0
  ClosesBy closing behind old new = IsClosed behind old new ⊎ GaveUp closing behind old new

module _ {St : Type 0} (does : (number : ℕ) → Read Command → St → Reply → St → Type 0) (breaks : (number : ℕ) → Read Command → St → St → Type 0)
    (withdraws : (number : ℕ) → (old new : St) → Type 0) (closes : St → Option Reply → St → Type 0) (gives_up : St → St → Type 0) where
  -- A script was played to its end: the replies to its lines, and behind them that of what was done then.
  pub record Finished (first : St) (ending : Ending) (closing : Option Halt) (source left : SourceTold) (told_first told_now : Option (List ℕ)) (final : St) (refusals : Refusals) : Type 0 where
    pub lines : List (List ℕ)
    pub replies : List Reply
    pub between : St
    pub plays : PlaysFrom does 1 lines replies first between
    pub told_lines : Option (List ℕ)
    pub noted : St
    pub wrote_lines : Wrote withdraws ending told_first told_lines replies between noted
    pub cut : St
    pub is_cut : CutBy does breaks ending source left lines noted cut
    pub behind : List Reply
    pub closed : ClosesBy closes gives_up closing behind cut final
    pub counts : CountsRefusals (refused_lines 1 replies) refusals
    pub are_lines : (text : List ℕ) → source.left ≡ Some text → AreLines ending text left.left lines
    pub given : AreOfGiven ending source left lines
    pub numbered : length replies ≡ length lines
    pub wrote_behind : WroteBehind ending closing told_lines told_now behind

  -- Whatever was played before, the script is finished so.
  abbrev pub Finishes : (ending : Ending) (closing : Option Halt) (told_old told_new : Option (List ℕ)) (old new : St) (refusals : Refusals) → Type 0
  Finishes ending closing told_old told_new old new refusals =
      (first : St) (source left : SourceTold) (told_first : Option (List ℕ)) → Played does breaks withdraws first ending source left told_first told_old old refusals
      → Finished first ending closing source left told_first told_new new refusals
