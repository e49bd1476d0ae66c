-- What was written of the replies to the lines of a script, and what a line that found no memory for its text leaves.
use Rattle.std.proofs.Common.{◌≡◌, ℕ, List, Option, ◌⊎◌, inl, inr, ap}
use Rattle.std.proofs.Math.Logic.{⊎_elim}
use Rattle.console.specs.declared.endings.Ending.{Ending}
use Rattle.console.specs.declared.endings.Ending.TheVariants.{End, TooLong, SourceFault, Halted}
use Rattle.console.specs.declared.halts.Halt.TheVariants.{NoMemory, SinkFault}
use Rattle.console.specs.declared.replies.Reply.{Reply}
use Rattle.console.specs.Playing.{Wrote, WroteAll, WroteBut}
use Rattle.daq_session.specs.WrittenLines.{WroteAllBut, WroteLines}

module _ {St : Type 0} (withdraws : (number : ℕ) → (old new : St) → Type 0) (told_first told_now : Option (List ℕ)) (replies : List Reply) (old new : St) where
  pub lines_written : (ending : Ending) → Wrote withdraws ending told_first told_now replies old new → WroteLines ending told_first told_now replies
  lines_written End all = all.whole
  lines_written TooLong all = all.whole
  lines_written SourceFault all = all.whole
  lines_written (Halted SinkFault) part = part.0
  lines_written (Halted NoMemory) is = ⊎_elim
      (λ (all : WroteAll told_first told_now replies old new). inl all.whole)
      (λ (but : WroteBut withdraws told_first told_now replies old new). inr (record { before = but.before; last = but.last; replies_are = but.replies_are; whole = but.whole }))
      is
