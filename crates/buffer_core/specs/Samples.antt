-- A history that a buffer has, and some that none has, each wrong in one way.
use Rattle.std.specs.Prelude.{ℕ, ◌^◌, List, [], ◌∷◌, length, Ok, Err}
use Rattle.daq_types.specs.declared.events.Event.{Event}
use Rattle.daq_types.specs.declared.runs.Kind.TheVariants.{All, NonBlocking}
use Rattle.buffer_core.specs.declared.gate.RunGate.TheVariants.{Shut, Running}
use Rattle.buffer_core.specs.Window.{any, opening}
use Rattle.buffer_core.specs.Ports.{Access}
use Rattle.buffer_core.specs.declared.replies.SendRefusal.TheVariants.{NotRunning, BadSize, ReservedId, TooLarge, Spent, Full}
use Rattle.buffer_core.specs.declared.replies.Received.TheVariants.{Got, Empty}
use Rattle.buffer_core.specs.declared.entry.BufferEntry.{BufferEntry}
use Rattle.buffer_core.specs.declared.entry.BufferEntry.TheVariants.{Attach, Detach, Request, Cancel, Send, SendInRun, Receive, Begin, Pause, End}

-- an event without data
abbrev pub sample_event : Event
sample_event = record { id = 1; mask = 1; serial = 1; time = 0; body = [] }

-- a client that asks for all events
abbrev pub with_reader : List (ℕ × BufferEntry) → List (ℕ × BufferEntry)
with_reader es = (0, Attach [] (Ok 0)) ∷ (0, Request 0 any any All (Ok 0)) ∷ es

-- in 48 bytes two such events fit: the third is refused until the client got the first
abbrev pub refused_once : List (ℕ × BufferEntry)
refused_once =
    with_reader
    ((1, Send 0 sample_event (Ok 0)) ∷ (1, Send 0 sample_event (Ok 1)) ∷ (1, Send 0 sample_event (Err (Full 0 0)))
    ∷ (0, Receive 0 0 (Got 0 0)) ∷ (1, Send 0 sample_event (Ok 2)) ∷ [])

-- an event is got twice
abbrev pub got_twice : List (ℕ × BufferEntry)
got_twice = with_reader ((1, Send 0 sample_event (Ok 0)) ∷ (0, Receive 0 0 (Got 0 0)) ∷ (0, Receive 0 0 (Got 0 0)) ∷ [])

-- an event is left out
abbrev pub left_out : List (ℕ × BufferEntry)
left_out = with_reader ((1, Send 0 sample_event (Ok 0)) ∷ (1, Send 0 sample_event (Ok 1)) ∷ (0, Receive 0 0 (Got 1 0)) ∷ [])

-- an event is got that was sent before the request
abbrev pub reached_back : List (ℕ × BufferEntry)
reached_back = (1, Send 0 sample_event (Ok 0)) ∷ with_reader ((0, Receive 0 0 (Got 0 0)) ∷ [])

-- a send is refused as full where nobody is to get an event
abbrev pub refused_for_nobody : List (ℕ × BufferEntry)
refused_for_nobody = (1, Send 0 sample_event (Ok 0)) ∷ (1, Send 0 sample_event (Err (Full 0 0))) ∷ []

-- an event is accepted in 24 bytes though the one before it is still to be got
abbrev pub dropped : List (ℕ × BufferEntry)
dropped = with_reader ((1, Send 0 sample_event (Ok 0)) ∷ (1, Send 0 sample_event (Ok 1)) ∷ [])

-- an event is got that takes more than any client may get
abbrev pub got_too_much : Event → List (ℕ × BufferEntry)
got_too_much e = with_reader ((1, Send (length e.body) e (Ok 0)) ∷ (0, Receive 0 (length e.body) (Got 0 0)) ∷ [])

-- two events are got that take more together
abbrev pub got_too_much_together : Event → Event → List (ℕ × BufferEntry)
got_too_much_together e f =
    with_reader
    ((1, Send (length e.body) e (Ok 0)) ∷ (0, Receive 0 (length e.body) (Got 0 0))
    ∷ (1, Send (length f.body) f (Ok 1)) ∷ (0, Receive 0 (length f.body) (Got 1 0)) ∷ [])

-- an event is got with a start number that it was not sent with
abbrev pub got_with_other_start : List (ℕ × BufferEntry)
got_with_other_start =
    with_reader ((1, Send 0 sample_event (Ok 0)) ∷ (0, Receive 0 0 (Got 0 1)) ∷ [])

-- an event is got whose request was cancelled
abbrev pub got_of_cancelled : List (ℕ × BufferEntry)
got_of_cancelled =
    with_reader
    ((1, Send 0 sample_event (Ok 0)) ∷ (0, Cancel 0 0 (Ok tt)) ∷ (0, Receive 0 0 (Got 0 0)) ∷ [])

-- none is found though an event is to be got
abbrev pub missed : List (ℕ × BufferEntry)
missed = with_reader ((1, Send 0 sample_event (Ok 0)) ∷ (0, Receive 0 0 (Empty Shut 0)) ∷ [])

-- a send is refused as full for a client that need not get all
abbrev pub refused_for_optional : List (ℕ × BufferEntry)
refused_for_optional =
    (0, Attach [] (Ok 0)) ∷ (0, Request 0 any any NonBlocking (Ok 0))
    ∷ (1, Send 0 sample_event (Ok 0)) ∷ (1, Send 0 sample_event (Err (Full 0 0))) ∷ []

-- an event with one byte of data, which takes 32 bytes
abbrev pub longer_event : Event
longer_event = record { id = 1; mask = 1; serial = 1; time = 0; body = 0 ∷ [] }

-- in 48 bytes two events are in the way of a third, and the refusal names the second of them
abbrev pub refused_at_second : List (ℕ × BufferEntry)
refused_at_second =
    with_reader
    ((1, Send 0 sample_event (Ok 0)) ∷ (1, Send 0 sample_event (Ok 1))
    ∷ (1, Send 1 longer_event (Err (Full 0 1))) ∷ [])

-- in 24 bytes an event is in the way that two clients have to get, and the refusal names the second
-- of them
abbrev pub refused_for_second : List (ℕ × BufferEntry)
refused_for_second =
    with_reader
    ((1, Attach [] (Ok 1)) ∷ (1, Request 1 any any All (Ok 0))
    ∷ (2, Send 0 sample_event (Ok 0)) ∷ (2, Send 0 sample_event (Err (Full 1 0))) ∷ [])

-- a send is refused for what it is not: for its header, which states the length of the data
abbrev pub refused_for_size : List (ℕ × BufferEntry)
refused_for_size = (1, Send 0 sample_event (Err (BadSize 0 0))) ∷ []

-- for its id, which is no reserved one
abbrev pub refused_for_id : List (ℕ × BufferEntry)
refused_for_id = (1, Send 0 sample_event (Err (ReservedId 1))) ∷ []

-- for its length, though it fits
abbrev pub refused_as_too_large : List (ℕ × BufferEntry)
refused_as_too_large = (1, Send 0 sample_event (Err (TooLarge 24 24))) ∷ []

-- for the room of all that were sent, though there was none
abbrev pub refused_as_spent : List (ℕ × BufferEntry)
refused_as_spent = (1, Send 0 sample_event (Err (Spent 0))) ∷ []

-- for the room of all that were sent, of which it names too much
abbrev pub refused_with_other_total : List (ℕ × BufferEntry)
refused_with_other_total = (1, Send 0 sample_event (Err (Spent (2 ^ 62)))) ∷ []

-- for its run, though it is on
abbrev pub refused_in_run : List (ℕ × BufferEntry)
refused_in_run = (1, Begin 1 (Ok 0)) ∷ (1, SendInRun 1 0 sample_event (Err (NotRunning (Running 1)))) ∷ []

-- for its run, which is off, with the gate of a run that never began
abbrev pub refused_with_other_gate : List (ℕ × BufferEntry)
refused_with_other_gate = (1, SendInRun 1 0 sample_event (Err (NotRunning (Running 2)))) ∷ []

-- for a run, though it was sent in none
abbrev pub refused_without_run : List (ℕ × BufferEntry)
refused_without_run = (1, Send 0 sample_event (Err (NotRunning Shut))) ∷ []

-- an event of a run is sent behind its end
abbrev pub sent_behind : List (ℕ × BufferEntry)
sent_behind = (1, Begin 1 (Ok 0)) ∷ (1, End 1 (Ok 0)) ∷ (1, SendInRun 1 0 sample_event (Ok 0)) ∷ []

-- an event of a run is sent in a pause
abbrev pub sent_in_pause : List (ℕ × BufferEntry)
sent_in_pause = (1, Begin 1 (Ok 0)) ∷ (1, Pause 1 (Ok 0)) ∷ (1, SendInRun 1 0 sample_event (Ok 0)) ∷ []

-- a run begins twice
abbrev pub begun_twice : List (ℕ × BufferEntry)
begun_twice = (1, Begin 1 (Ok 0)) ∷ (1, Begin 1 (Ok 0)) ∷ []

-- an event of another run is sent behind the begin of a run that has no end
abbrev pub sent_between : List (ℕ × BufferEntry)
sent_between = (1, Begin 1 (Ok 0)) ∷ (1, Begin 2 (Ok 0)) ∷ (1, SendInRun 2 0 sample_event (Ok 0)) ∷ []

-- the access of a caller that made these calls, where these of them gave clients that others
-- detached
abbrev pub access_after : List BufferEntry → (taken_back : List ℕ) → Access
access_after own taken_back = record {
  buffer = record { opened = opening 256; ports = 1; numbers = [] };
  caller = 1;
  size = 256;
  own = own;
  got = [];
  taken_back = taken_back;
}

-- a caller that was given client 0
abbrev pub given_once : List BufferEntry
given_once = Attach [] (Ok 0) ∷ []

-- and that detached it
abbrev pub given_and_detached : List BufferEntry
given_and_detached = Attach [] (Ok 0) ∷ Detach 0 (Ok tt) ∷ []

-- a caller that was given client 0 twice
abbrev pub given_twice : List BufferEntry
given_twice = Attach [] (Ok 0) ∷ Attach [] (Ok 0) ∷ []
