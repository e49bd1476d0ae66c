-- Headers as records, their bytes, and the events that they stand in front of.
use Rattle.std.specs.Prelude.{ℕ, List, length}
use Rattle.daq_types.specs.declared.events.Event.{Event}
use Rattle.event.specs.Events.{header_bytes}
use Rattle.event.specs.declared.head.Header.{Header}

-- the 16 bytes of a header
abbrev pub header_encoding : Header → List ℕ
header_encoding h = header_bytes h.event_id h.trigger_mask h.serial_number h.time_stamp h.data_size

-- the event with this header and this data
abbrev pub event_of : Header → List ℕ → Event
event_of h body = record { id = h.event_id; mask = h.trigger_mask; serial = h.serial_number; time = h.time_stamp; body = body }

-- the header of an event, which states the length of its data
abbrev pub fields_of : Event → Header
fields_of e = record { event_id = e.id; trigger_mask = e.mask; serial_number = e.serial; time_stamp = e.time; data_size = length e.body }
