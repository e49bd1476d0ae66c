-- What was written of the replies to the lines of a script.
use Rattle.std.specs.Prelude.{◌≡◌, ℕ, List, [], ◌∷◌, ◌++◌, Option, ◌⊎◌}
use Rattle.std.specs.Io.KnownBytes.{Appends}
use Rattle.console.specs.declared.endings.Ending.{Ending}
use Rattle.console.specs.declared.endings.Ending.TheVariants.{End, TooLong, SourceFault, Halted}
use Rattle.console.specs.declared.halts.Halt.TheVariants.{NoMemory, SinkFault}
use Rattle.console.specs.declared.replies.Reply.{Reply}
use Rattle.console.specs.Console.{console_text}
use Rattle.console.specs.Playing.{WroteUpTo}

-- The replies but for the last were written, and nothing of the last.
pub record WroteAllBut (told_first told_now : Option (List ℕ)) (replies : List Reply) : Type 0 where
  pub before : List Reply
  pub last : Reply
  pub replies_are : replies ≡ before ++ last ∷ []
  pub whole : Appends told_first told_now (console_text 1 before)

-- What was written of the replies to the lines, by how these ended: all; of the last only a first part where the sink failed; and all
-- or all but the last where memory was wanting.
abbrev pub WroteLines : Ending → (told_first told_now : Option (List ℕ)) → List Reply → Type 0
WroteLines End told_first told_now replies = Appends told_first told_now (console_text 1 replies)
WroteLines TooLong told_first told_now replies = Appends told_first told_now (console_text 1 replies)
WroteLines SourceFault told_first told_now replies = Appends told_first told_now (console_text 1 replies)
WroteLines (Halted SinkFault) told_first told_now replies = WroteUpTo told_first told_now replies
WroteLines (Halted NoMemory) told_first told_now replies =
    Appends told_first told_now (console_text 1 replies) ⊎ WroteAllBut told_first told_now replies
