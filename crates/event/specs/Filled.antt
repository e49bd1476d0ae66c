-- How an event's room holds it.
use Rattle.std.specs.Prelude.{◌≡◌, ◌≤◌, ◌+◌, ◌++◌, length, drop, vec_capacity}
use Rattle.event.specs.Headers.{event_of, header_encoding}
use Rattle.event.specs.Held.{HeldEvent}
use Rattle.event.specs.declared.event_buf.EventBuf.TheInside.{Inside}

abbrev pub held_event : Inside → HeldEvent
held_event b = record { event = event_of b.header (drop 16 b.bytes.items); room = b.room }

-- the bytes are the header's and the data behind them, and there is room for the longest event
pub record IsFilled (b : Inside) : Type 0 where
  pub bytes : b.bytes.items ≡ header_encoding b.header ++ drop 16 b.bytes.items
  pub stated : length b.bytes.items ≡ 16 + b.header.data_size
  pub fits : b.header.data_size ≤ b.room
  pub capacity : 16 + b.room ≤ vec_capacity b.bytes
