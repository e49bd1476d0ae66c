-- What one caller's calls in the history of a buffer gave, which of its clients other callers detached, and what a port
-- tells its caller of a history.
use Rattle.std.specs.Prelude.{ℕ, suc, ◌==◌, Bool, false, not, if◌then◌else◌, List, [], ◌∷◌, ◌++◌, Ok}
use Rattle.daq_types.specs.Callers.{entries_by}
use Rattle.daq_types.specs.declared.events.Event.{Event}
use Rattle.event.specs.Held.{blank_event}
use Rattle.buffer_core.specs.declared.replies.Received.TheVariants.{Got}
use Rattle.buffer_core.specs.declared.entry.BufferEntry.{BufferEntry}
use Rattle.buffer_core.specs.declared.entry.BufferEntry.TheVariants.{Attach, Detach, Receive}
use Rattle.buffer_core.specs.Window.{Window}
use Rattle.buffer_core.specs.Calls.{window_after, event_after}
use Rattle.buffer_core.specs.Histories.{replay}
use Rattle.buffer_core.specs.Ports.{Access, BufferIdentity, GotEvent}

-- the event that a call on this window gives, in a room that held none
abbrev pub given_by : Window → BufferEntry → List GotEvent
given_by w (Receive client room (Got place start)) =
    let event : Event = event_after blank_event w (Got place start) in
    record { client = client; place = place; start = start; event = event } ∷ []
given_by w entry = []

-- the events that this caller's calls gave
abbrev pub given_in : (by : ℕ) → Window → List (ℕ × BufferEntry) → List GotEvent
given_in by w [] = []
given_in by w (e ∷ es) = (if e.0 == by then given_by w e.1 else []) ++ given_in by (window_after w e.1) es

-- whether the call detached this client
abbrev pub detaches : BufferEntry → (client : ℕ) → Bool
detaches (Detach n (Ok u)) client = n == client
detaches entry client = false

-- whether the first of these calls that detached the client is that of a caller other than this one
abbrev pub is_taken_back : (by client : ℕ) → List (ℕ × BufferEntry) → Bool
is_taken_back by client [] = false
is_taken_back by client (e ∷ es) =
    if detaches e.1 client then not (e.0 == by) else is_taken_back by client es

-- the number of a caller's own call, where that gave a client that another caller detached later
abbrev pub taken_back_of : (by call : ℕ) → BufferEntry → (later : List (ℕ × BufferEntry)) → List ℕ
taken_back_of by call (Attach name (Ok client)) later =
    if is_taken_back by client later then call ∷ [] else []
taken_back_of by call entry later = []

-- the numbers of all those calls of this caller, where its first one here has this number
abbrev pub taken_back_in : (by call : ℕ) → List (ℕ × BufferEntry) → List ℕ
taken_back_in by call [] = []
taken_back_in by call (e ∷ es) =
    if e.0 == by
    then taken_back_of by call e.1 es ++ taken_back_in by (suc call) es
    else taken_back_in by call es

-- What a port to this buffer tells this caller, where these are the calls that the caller has seen since the buffer opened
-- to its ports.
abbrev pub access_in : BufferIdentity → (caller : ℕ) → List (ℕ × BufferEntry) → Access
access_in buffer caller seen = record {
  buffer = buffer;
  caller = caller;
  size = (replay buffer.opened seen).size;
  own = entries_by caller seen;
  got = given_in caller buffer.opened seen;
  taken_back = taken_back_in caller 0 seen;
}
