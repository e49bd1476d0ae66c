-- What a logger notes of the calls on the files that failed.
use Rattle.std.specs.Prelude.{◌≡◌, ◌<◌, ℕ, true, List, Option, ◌⊎◌}
use Rattle.daq_io.specs.Counts.{Rose}
use Rattle.buffer_core.specs.Slots.{some_slot}
use Rattle.mid_logger.specs.declared.channel.Channel.{Channel}

-- a channel has noted that a call on the files failed
abbrev pub HasFailed : List (Option Channel) → Type 0
HasFailed slots = some_slot (λ c. c.failed) slots ≡ true

-- A call of the logger, before which the count of the files' faults was this, and behind it that: the count stays, or rose;
-- what was noted stays noted; a fault is noted where the count is greater, and one is noted only where one was before, or the
-- count rose.
pub record NotesFaults (slots later_slots : List (Option Channel)) (faults later_faults : ℕ) : Type 0 where
  pub count : (later_faults ≡ faults) ⊎ Rose faults later_faults
  pub stays : HasFailed slots → HasFailed later_slots
  pub each : faults < later_faults → HasFailed later_slots
  pub only : HasFailed later_slots → HasFailed slots ⊎ Rose faults later_faults
