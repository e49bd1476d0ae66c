-- The events of a detector whose pulse heights stand in a table.
use Rattle.std.specs.Prelude.{ℕ, ◌-◌, ◌%◌, List, slice_index}
use Rattle.std.specs.Int.{to_le_bytes, w16}
use Rattle.daq_types.specs.declared.events.Event.{Event}

-- event k: the heights of the table in turn, two bytes each with the low byte first
abbrev pub pulse_event : (id : ℕ) (heights : List ℕ) (time k : ℕ) → Event
pulse_event id heights time k =
    record { id = id; mask = 1; serial = k; time = time; body = to_le_bytes w16 (slice_index heights ((k - 1) % 8)) }
