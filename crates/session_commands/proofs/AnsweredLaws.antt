-- A script for which memory was not wanting: each of its lines was answered, and so was what is done behind them.
use Rattle.std.proofs.Common.{◌≡◌, ◌≢◌, ℕ, List, Option, Some, None, refl, ap, sym, ◌∙◌, subst}
use Rattle.std.proofs.Math.Logic.{⊎_elim}
use Rattle.daq_io.specs.Told.{SourceTold}
use Rattle.odb_script.specs.declared.commands.Command.{Command}
use Rattle.odb_script.specs.Forms.{Read}
use Rattle.console.specs.declared.replies.Reply.{Reply}
use Rattle.console.specs.declared.refusals.Refusals.{Refusals}
use Rattle.session_commands.specs.Stages.{SessionStage}
use Rattle.session_commands.specs.ScriptLines.{BreaksScriptLine, ClosesScript, DoesScriptLine, GivesUp, WithdrawsLine}
use Rattle.console.specs.declared.endings.Ending.{Ending}
use Rattle.console.specs.declared.endings.Ending.TheVariants.{End, TooLong, SourceFault, Halted}
use Rattle.console.specs.declared.halts.Halt.{Halt}
use Rattle.console.specs.declared.halts.Halt.TheVariants.{NoMemory, SinkFault}
use Rattle.console.specs.Playing.{CutBy, Wrote}
use Rattle.console.specs.Closing.{ClosesBy, Finished, GaveUp, IsClosed, ended_by}
use Rattle.console.proofs.KeepingLaws.{plays_keep}

not_cut : (ending : Ending) (closing : Option Halt) (source left : SourceTold) (lines : List (List ℕ)) (old new : SessionStage) → ended_by ending closing ≢ Halted NoMemory → CutBy DoesScriptLine BreaksScriptLine ending source left lines old new → new ≡ old
not_cut End closing source left lines old new found cut = cut
not_cut TooLong closing source left lines old new found cut = cut
not_cut SourceFault closing source left lines old new found cut = cut
not_cut (Halted SinkFault) closing source left lines old new found cut = cut
not_cut (Halted NoMemory) None source left lines old new found cut = absurd (found refl)
not_cut (Halted NoMemory) (Some halt) source left lines old new found cut = absurd (found refl)

not_withdrawn : (ending : Ending) (closing : Option Halt) (told_first told_now : Option (List ℕ)) (replies : List Reply) (old new : SessionStage) → ended_by ending closing ≢ Halted NoMemory
    → Wrote WithdrawsLine ending told_first told_now replies old new → new ≡ old
not_withdrawn End closing told_first told_now replies old new found wrote = wrote.stays
not_withdrawn TooLong closing told_first told_now replies old new found wrote = wrote.stays
not_withdrawn SourceFault closing told_first told_now replies old new found wrote = wrote.stays
not_withdrawn (Halted SinkFault) closing told_first told_now replies old new found wrote = wrote.1
not_withdrawn (Halted NoMemory) None told_first told_now replies old new found wrote = absurd (found refl)
not_withdrawn (Halted NoMemory) (Some halt) told_first told_now replies old new found wrote = absurd (found refl)

-- a script behind whose lines memory was wanting ends for want of it
wanting_behind : (ending : Ending) → ended_by ending (Some NoMemory) ≡ Halted NoMemory
wanting_behind End = refl
wanting_behind TooLong = refl
wanting_behind SourceFault = refl
wanting_behind (Halted NoMemory) = refl
wanting_behind (Halted SinkFault) = refl

is_closed : (ending : Ending) (closing : Option Halt) (behind : List Reply) (old new : SessionStage) → ended_by ending closing ≢ Halted NoMemory → ClosesBy ClosesScript GivesUp closing behind old new → IsClosed ClosesScript GivesUp behind old new
is_closed ending closing behind old new found by = ⊎_elim
    (λ (is : IsClosed ClosesScript GivesUp behind old new). is)
    (λ (gave : GaveUp ClosesScript GivesUp closing behind old new). absurd (found (ap (ended_by ending) gave.closing_is ∙ wanting_behind ending)))
    by

-- What each answered line keeps, and what is done behind them, the script keeps.
pub answered_keeps : (Kept : SessionStage → Type 0)
    → ((number : ℕ) → (line : Read Command) → (old new : SessionStage) → (reply : Reply) → DoesScriptLine number line old reply new → Kept old → Kept new)
    → ((old new : SessionStage) → (reply : Option Reply) → ClosesScript old reply new → Kept old → Kept new)
    → (first final : SessionStage) (ending : Ending) (closing : Option Halt) (source left : SourceTold) (told_first told : Option (List ℕ)) (refusals : Refusals)
    → Finished DoesScriptLine BreaksScriptLine WithdrawsLine ClosesScript GivesUp first ending closing source left told_first told final refusals
    → ended_by ending closing ≢ Halted NoMemory → Kept first → Kept final
answered_keeps Kept each behind first final ending closing source left told_first told refusals finished found kept =
    let closed = is_closed ending closing finished.behind finished.cut final found finished.closed in
    behind finished.cut final closed.reply closed.closed
    (subst Kept (sym (not_cut ending closing source left finished.lines finished.noted finished.cut found finished.is_cut
    ∙ not_withdrawn ending closing told_first finished.told_lines finished.replies finished.between finished.noted found finished.wrote_lines))
    (plays_keep DoesScriptLine BreaksScriptLine WithdrawsLine ClosesScript GivesUp Kept each 1 finished.lines finished.replies first finished.between finished.plays kept))
