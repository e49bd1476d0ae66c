-- What a whole script keeps, where each of its lines does.
use Rattle.std.proofs.Common.{◌≡◌, ℕ, ◌+◌, List, [], ◌∷◌, Option, Some, None, length, sym, subst, inl, inr}
use Rattle.std.proofs.Math.Logic.{⊎_elim}
use Rattle.daq_io.specs.Told.{SourceTold}
use Rattle.odb_script.specs.declared.commands.Command.{Command}
use Rattle.odb_script.specs.Forms.{Read, command_of}
use Rattle.console.specs.declared.endings.Ending.{Ending}
use Rattle.console.specs.declared.endings.Ending.TheVariants.{End, TooLong, SourceFault, Halted}
use Rattle.console.specs.declared.halts.Halt.{Halt}
use Rattle.console.specs.declared.halts.Halt.TheVariants.{NoMemory, SinkFault}
use Rattle.console.specs.declared.refusals.Refusals.{Refusals}
use Rattle.console.specs.declared.replies.Reply.{Reply}
use Rattle.console.specs.Playing.{BreaksAt, CutBy, PlaysFrom, Wrote, WroteAll, WroteBut}
use Rattle.console.specs.Closing.{ClosesBy, Finished, GaveUp, IsClosed}

module _ {St : Type 0} (does : (number : ℕ) → Read Command → St → Reply → St → Type 0) (breaks : (number : ℕ) → Read Command → St → St → Type 0)
    (withdraws : (number : ℕ) → (old new : St) → Type 0) (closes : St → Option Reply → St → Type 0) (gives_up : St → St → Type 0) (Kept : St → Type 0) where
  pub plays_keep : ((number : ℕ) → (line : Read Command) → (old new : St) → (reply : Reply) → does number line old reply new → Kept old → Kept new)
      → (number : ℕ) (lines : List (List ℕ)) (replies : List Reply) (old new : St) → PlaysFrom does number lines replies old new → Kept old → Kept new
  plays_keep each number [] [] old new same kept = subst Kept (sym same) kept
  plays_keep each number [] (r ∷ replies) old new plays kept = absurd plays
  plays_keep each number (l ∷ lines) [] old new plays kept = absurd plays
  plays_keep each number (l ∷ lines) (r ∷ replies) old new plays kept =
      plays_keep each (number + 1) lines replies plays.0 new plays.2 (each number (command_of l) old plays.0 r plays.1 kept)

  wrote_all_keeps : (told_first told_now : Option (List ℕ)) (replies : List Reply) (old new : St) → WroteAll told_first told_now replies old new → Kept old → Kept new
  wrote_all_keeps told_first told_now replies old new all kept = subst Kept (sym all.stays) kept

  pub wrote_keeps : ((number : ℕ) → (old new : St) → withdraws number old new → Kept old → Kept new)
      → (ending : Ending) (told_first told_now : Option (List ℕ)) (replies : List Reply) (old new : St) → Wrote withdraws ending told_first told_now replies old new → Kept old → Kept new
  wrote_keeps each End told_first told_now replies old new all kept = wrote_all_keeps told_first told_now replies old new all kept
  wrote_keeps each TooLong told_first told_now replies old new all kept = wrote_all_keeps told_first told_now replies old new all kept
  wrote_keeps each SourceFault told_first told_now replies old new all kept = wrote_all_keeps told_first told_now replies old new all kept
  wrote_keeps each (Halted SinkFault) told_first told_now replies old new part kept = subst Kept (sym part.1) kept
  wrote_keeps each (Halted NoMemory) told_first told_now replies old new wrote kept = ⊎_elim
      (λ (all : WroteAll told_first told_now replies old new). wrote_all_keeps told_first told_now replies old new all kept)
      (λ (but : WroteBut withdraws told_first told_now replies old new). each (1 + length but.before) old new but.withdrew kept)
      wrote

  cut_keeps : ((number : ℕ) → (line : Read Command) → (old new : St) → breaks number line old new → Kept old → Kept new)
      → (ending : Ending) (source left : SourceTold) (lines : List (List ℕ)) (old new : St) → CutBy does breaks ending source left lines old new → Kept old → Kept new
  cut_keeps each End source left lines old new same kept = subst Kept (sym same) kept
  cut_keeps each TooLong source left lines old new same kept = subst Kept (sym same) kept
  cut_keeps each SourceFault source left lines old new same kept = subst Kept (sym same) kept
  cut_keeps each (Halted SinkFault) source left lines old new same kept = subst Kept (sym same) kept
  cut_keeps each (Halted NoMemory) source left lines old new cut kept = ⊎_elim
      (λ (same : new ≡ old). subst Kept (sym same) kept)
      (λ (at : BreaksAt does breaks source left lines old new). each (1 + length lines) (command_of at.line) old new at.broke kept)
      cut

  closing_keeps : ((old new : St) → (reply : Option Reply) → closes old reply new → Kept old → Kept new)
      → ((old new : St) → gives_up old new → Kept old → Kept new)
      → (closing : Option Halt) (behind : List Reply) (old new : St) → ClosesBy closes gives_up closing behind old new → Kept old → Kept new
  closing_keeps closed gave closing behind old new by kept = ⊎_elim
      (λ (is : IsClosed closes gives_up behind old new). closed old new is.reply is.closed kept)
      (λ (gives : GaveUp closes gives_up closing behind old new). gave old new gives.gave_up kept)
      by

  -- What is behind the lines keeps it: what is taken out again of what was noted of the last one, what was done of the next one, and
  -- the end.
  pub behind_keeps : ((number : ℕ) → (old new : St) → withdraws number old new → Kept old → Kept new)
      → ((number : ℕ) → (line : Read Command) → (old new : St) → breaks number line old new → Kept old → Kept new)
      → ((old new : St) → (reply : Option Reply) → closes old reply new → Kept old → Kept new)
      → ((old new : St) → gives_up old new → Kept old → Kept new)
      → (first final : St) (ending : Ending) (closing : Option Halt) (source left : SourceTold) (told_first told : Option (List ℕ)) (refusals : Refusals)
      → (finished : Finished does breaks withdraws closes gives_up first ending closing source left told_first told final refusals) → Kept finished.between → Kept final
  behind_keeps withdrew broke closed gave first final ending closing source left told_first told refusals finished kept =
      closing_keeps closed gave closing finished.behind finished.cut final finished.closed
      (cut_keeps broke ending source left finished.lines finished.noted finished.cut finished.is_cut
      (wrote_keeps withdrew ending told_first finished.told_lines finished.replies finished.between finished.noted finished.wrote_lines kept))
