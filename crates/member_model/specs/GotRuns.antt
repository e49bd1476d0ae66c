-- What a client got of a run, told by the start number of the events.
use Rattle.std.specs.Prelude.{ℕ, ◌==◌, ◌&&◌, if◌then◌else◌, List, [], ◌∷◌, ◌++◌}
use Rattle.daq_types.specs.declared.events.Event.{Event}
use Rattle.buffer_core.specs.Ports.{GotEvent}

-- the event, where it is the client's and was sent with this start number
abbrev pub event_of_start : (client start : ℕ) → GotEvent → List Event
event_of_start client start g = if (g.client == client) && (g.start == start) then g.event ∷ [] else []

-- the events with this start number that the client got, in order
abbrev pub events_of_start : (client start : ℕ) → List GotEvent → List Event
events_of_start client start [] = []
events_of_start client start (g ∷ gs) = event_of_start client start g ++ events_of_start client start gs
