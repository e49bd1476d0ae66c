-- What an event's room holds.
use Rattle.std.specs.Prelude.{ℕ, []}
use Rattle.daq_types.specs.declared.events.Event.{Event}

-- an event, and how many bytes of data fit
pub record HeldEvent : Type 0 where
  pub event : Event
  pub room : ℕ

-- the event with no data and zeros in its header
abbrev pub blank_event : Event
blank_event = record { id = 0; mask = 0; serial = 0; time = 0; body = [] }

abbrev pub empty_buf : ℕ → HeldEvent
empty_buf room = record { event = blank_event; room = room }
