-- How often a call reads what is in front of an event's data, at most; and what it reads of the data.
use Rattle.std.specs.Prelude.{ℕ, ◌+◌, ◌*◌, ◌-◌, length, Option, Some, None, Result, Ok, Err}
use Rattle.daq_types.specs.declared.events.Event.{Event}
use Rattle.ring_buffer.specs.Rings.{CountedBytes, IsRead}
use Rattle.buffer_core.specs.declared.client.Client.{Client}
use Rattle.buffer_core.specs.declared.replies.SendRefusal.{SendRefusal}
use Rattle.buffer_core.specs.declared.replies.SendRefusal.TheVariants.{Full}
use Rattle.buffer_core.specs.declared.replies.Received.{Received}
use Rattle.buffer_core.specs.declared.replies.Received.TheVariants.{Got, Empty, SmallBuf}
use Rattle.buffer_core.specs.Window.{Window, Sent, accepted_of}
use Rattle.buffer_core.specs.Calls.{gone_of}
use Rattle.ring_buffer.specs.RingHolds.{front_bytes}

-- what is in front of so many events' data was read, each once
abbrev pub ReadsFronts : (old new : CountedBytes) (fronts : ℕ) → Type 0
ReadsFronts old new fronts = IsRead old new fronts (front_bytes * fronts)

-- a send reads that of each event that it drops at most once, or of each of those up to the one that is in the way
abbrev pub fronts_of_send : Window → Event → Result ℕ SendRefusal → ℕ
fronts_of_send w e (Ok n) = gone_of w e
fronts_of_send w e (Err (Full client place)) = place - w.first + 1
fronts_of_send w e refused = 0

-- a receive reads that of each event from the client's next place on at most once, up to the one that it gives
abbrev pub fronts_of_receive : Window → Option Client → Received → ℕ
fronts_of_receive w (Some c) (Got place start) = place + 1 - c.next
fronts_of_receive w (Some c) (Empty gate last) = accepted_of w - c.next
fronts_of_receive w (Some c) (SmallBuf need) = accepted_of w - c.next
fronts_of_receive w o reply = 0

-- how many bytes of data a kept event has, if there is one
abbrev pub data_of : Option Sent → ℕ
data_of None = 0
data_of (Some s) = length s.event.body
