-- Sends and receives on a buffer of 256 bytes, in which eight events of eight bytes of data fit.
use Rattle.std.specs.Prelude.{ℕ, List, [], ◌∷◌, Ok, Err}
use Rattle.daq_types.specs.declared.events.Event.{Event}
use Rattle.daq_types.specs.declared.runs.Kind.{Kind}
use Rattle.event.specs.Events.{any}
use Rattle.buffer_core.specs.declared.gate.RunGate.TheVariants.{Shut}
use Rattle.buffer_core.specs.declared.replies.SendRefusal.TheVariants.{Full}
use Rattle.buffer_core.specs.declared.replies.Received.TheVariants.{Got, Empty}
use Rattle.buffer_core.specs.declared.entry.BufferEntry.{BufferEntry}
use Rattle.buffer_core.specs.declared.entry.BufferEntry.TheVariants.{Attach, Request, Send, Receive}

-- an event of this id with eight bytes of data
abbrev pub small_event : (id : ℕ) → Event
small_event id = record {
  id = id;
  mask = 0;
  serial = 1;
  time = 0;
  body = 0 ∷ 0 ∷ 0 ∷ 0 ∷ 0 ∷ 0 ∷ 0 ∷ 0 ∷ [];
}

abbrev pub sent_as : (id place : ℕ) → ℕ × BufferEntry
sent_as id place = (1, Send 8 (small_event id) (Ok place))

-- a client asks for the events of one id, and eight events are sent, of id 1 but for the second
abbrev pub eight_sent : (asked second : ℕ) → Kind → List (ℕ × BufferEntry)
eight_sent asked second kind =
    (0, Attach [] (Ok 0)) ∷ (0, Request 0 asked any kind (Ok 0))
    ∷ sent_as 1 0 ∷ sent_as second 1 ∷ sent_as 1 2 ∷ sent_as 1 3
    ∷ sent_as 1 4 ∷ sent_as 1 5 ∷ sent_as 1 6 ∷ sent_as 1 7 ∷ []

-- the client must get events of id 2, of which the second is one: the ninth send drops the first
-- event, the tenth is refused for the second
abbrev pub dropped_and_refused : List (ℕ × BufferEntry)
dropped_and_refused = sent_as 1 8 ∷ (1, Send 8 (small_event 1) (Err (Full 0 1))) ∷ []

-- the client may get events of id 1: the ninth send pushes it to the second event, and it receives
-- that
abbrev pub pushed_and_received : List (ℕ × BufferEntry)
pushed_and_received = sent_as 1 8 ∷ (0, Receive 0 8 (Got 1 0)) ∷ []

-- the client must get events of id 2, and there is none
abbrev pub none_received : List (ℕ × BufferEntry)
none_received = (0, Receive 0 8 (Empty Shut 0)) ∷ []
