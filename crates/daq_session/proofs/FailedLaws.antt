-- Whether the logger of a session noted a fault of the run files.
use Rattle.std.proofs.Common.{◌≡◌, ◌≤◌, ◌<◌, ℕ, List, Option, true, false, sym, ◌∙◌}
use Rattle.std.specs.Prelude.{Bool}
use Rattle.std.proofs.Math.Logic.{⊎_elim}
use Rattle.std.proofs.lemmas.Bool.{cases_lt}
use Rattle.daq_io.specs.Counts.{Rose}
use Rattle.buffer_core.specs.Slots.{some_slot}
use Rattle.mid_logger.specs.declared.channel.Channel.{Channel}
use Rattle.loggers.specs.LoggerFaults.{HasFailed, NotesFaults}
use Rattle.session_commands.specs.Endings.{NotesFailed}

pub noted_failed : (failed : Bool) (slots later : List (Option Channel)) (old new : ℕ) → failed ≡ some_slot (λ c. c.failed) later → ¬ HasFailed slots → NotesFaults slots later old new → NotesFailed failed old new
noted_failed true slots later old new is none notes = ⊎_elim
    (λ (before : HasFailed slots). absurd (none before))
    (λ (rose : Rose old new). rose)
    (notes.only (sym is))
noted_failed false slots later old new is none notes = ⊎_elim
    (λ (less : old < new). absurd (cc (is ∙ notes.each less)))
    (λ (most : new ≤ old). most)
    (cases_lt old new)
