-- What a port to a buffer tells of its caller's own calls.
use Rattle.std.specs.Prelude.{◌≡◌, ℕ, ◌+◌, ◌≤◌, ◌<◌, ◌==◌, ◌&&◌, nat_le, true, false, if◌then◌else◌, List, [], ◌∷◌, ◌++◌, length, slice_get, Contains, Some, Ok, ⊤, ◌⊎◌}
use Rattle.daq_types.specs.declared.events.Event.{Event}
use Rattle.event.specs.Events.{slot_size, is_reserved, event_limit}
use Rattle.buffer_core.specs.declared.replies.SendRefusal.{SendRefusal}
use Rattle.buffer_core.specs.declared.replies.SendRefusal.TheVariants.{NotRunning, BadSize, ReservedId, TooLarge, Spent, Full}
use Rattle.buffer_core.specs.declared.replies.Received.{Received}
use Rattle.buffer_core.specs.declared.replies.Received.TheVariants.{Got, SmallBuf}
use Rattle.buffer_core.specs.declared.entry.BufferEntry.{BufferEntry}
use Rattle.buffer_core.specs.declared.entry.BufferEntry.TheVariants.{Attach, Detach, Receive}
use Rattle.buffer_core.specs.Window.{Window}

-- an event that a client got by a call: the client's number, the event's place, the start number that it was sent with, and
-- the event
pub record GotEvent : Type 0 where
  pub client : ℕ
  pub place : ℕ
  pub start : ℕ
  pub event : Event

-- which event that is: the client's number, the event's place, and its start number
abbrev pub name_of : GotEvent → ℕ × ℕ × ℕ
name_of g = (g.client, g.place, g.start)

abbrev pub name_given : BufferEntry → List (ℕ × ℕ × ℕ)
name_given (Receive client room (Got place start)) = (client, place, start) ∷ []
name_given entry = []

-- the events that these calls gave, as their replies name them
abbrev pub names_given : List BufferEntry → List (ℕ × ℕ × ℕ)
names_given [] = []
names_given (e ∷ es) = name_given e ++ names_given es

-- Which buffer a port leads to: the window with which it opened to its ports, how many ports it may
-- have, and numbers by which it is told from other buffers; none where it has one port.
pub record BufferIdentity : Type 0 where
  pub opened : Window
  pub ports : ℕ
  pub numbers : List ℕ

-- One caller's access to a buffer: which buffer it is; the caller's number; the buffer's size; the
-- caller's own calls with their replies, in order; the events that its clients got by them, in
-- order; and which of its own calls, counted from 0, gave it clients that other callers detached, as
-- far as is known.
pub record Access : Type 0 where
  pub buffer : BufferIdentity
  pub caller : ℕ
  pub size : ℕ
  pub own : List BufferEntry
  pub got : List GotEvent
  pub taken_back : List ℕ

-- this one of the own calls was an attach that gave the caller the client, and no own call detached
-- the client since
pub record IsGivenAt (own : List BufferEntry) (call client : ℕ) : Type 0 where
  pub name : List ℕ
  pub given : slice_get own call ≡ Some (Attach name (Ok client))
  pub stays : (later : ℕ) → call < later → slice_get own later ≡ Some (Detach client (Ok tt)) → ⊥

-- a number that an attach may give: another caller detached each client that the caller was given
-- under this number and did not detach itself
abbrev pub IsNewNumber : Access → (client : ℕ) → Type 0
IsNewNumber a client = (call : ℕ) → IsGivenAt a.own call client → Contains a.taken_back call

-- this access, with what is known of other callers by then
abbrev pub knowing : Access → (later : Access) → Access
knowing a later = record a { taken_back = later.taken_back }

-- One call more on the same buffer, after which the clients have got these events. What was known of
-- other callers stays known, and only of clients that the caller had there may more be known.
pub record PortCalled (a b : Access) (entry : BufferEntry) (got : List GotEvent) : Type 0 where
  pub buffer : b.buffer ≡ a.buffer
  pub caller : b.caller ≡ a.caller
  pub size : b.size ≡ a.size
  pub own : b.own ≡ a.own ++ entry ∷ []
  pub got_is : b.got ≡ got
  pub still_known : (call : ℕ) → Contains a.taken_back call → Contains b.taken_back call
  pub newly_known : (call : ℕ) → Contains b.taken_back call →
      Contains a.taken_back call ⊎ ((client : ℕ) × IsGivenAt a.own call client)

-- a call that gives no event
abbrev pub Calls : Access → Access → BufferEntry → Type 0
Calls a b entry = PortCalled a b entry a.got

-- the events got, once a receive of this client gave this reply and this event
abbrev pub got_after : List GotEvent → (client : ℕ) → Received → Event → List GotEvent
got_after got client (Got place start) e = got ++ record { client = client; place = place; start = start; event = e } ∷ []
got_after got client reply e = got

-- a receive, after which the receiver holds this event
abbrev pub Receives : Access → Access → (client room : ℕ) → Received → Event → Type 0
Receives a b client room reply held = PortCalled a b (Receive client room reply) (got_after a.got client reply held)

-- the slots of the events that the client of this number got
abbrev pub slots_got : (client : ℕ) → List GotEvent → ℕ
slots_got client [] = 0
slots_got client (g ∷ gs) = (if g.client == client then slot_size g.event else 0) + slots_got client gs

-- an event that a buffer may give
pub record IsGiven (e : Event) : Type 0 where
  pub small : length e.body ≤ event_limit
  pub free : is_reserved e.id ≡ false

-- where the receive gave an event, it is this, and a buffer may give it
abbrev pub GivesSound : Received → Event → Type 0
GivesSound (Got place start) e = IsGiven e
GivesSound reply e = ⊤

-- where the receive gave no event, the receiver holds what it held
abbrev pub KeepsUnlessGot : Received → (before after : Event) → Type 0
KeepsUnlessGot (Got place start) before after = ⊤
KeepsUnlessGot reply before after = after ≡ before

-- the receive found an event that had too much data
abbrev pub IsSmallBuf : Received → Type 0
IsSmallBuf (SmallBuf need) = ⊤
IsSmallBuf reply = ⊥

-- a refusal of this event, sent in no run, by a buffer of this size, as far as event and size
-- decide
abbrev pub IsSendFault : (size stated : ℕ) → Event → SendRefusal → Type 0
IsSendFault size stated e (NotRunning gate) = ⊥
IsSendFault size stated e (BadSize s given) = (s ≡ stated) × (given ≡ length e.body) × (((stated == length e.body) && nat_le stated event_limit) ≡ false)
IsSendFault size stated e (ReservedId id) = (id ≡ e.id) × (is_reserved e.id ≡ true)
IsSendFault size stated e (TooLarge slot whole) = (slot ≡ slot_size e) × (whole ≡ size) × (size < slot_size e)
IsSendFault size stated e (Spent total) = ⊤
IsSendFault size stated e (Full client place) = ⊤

-- the same, sent in a run, which may be off
abbrev pub IsRunSendFault : (size stated : ℕ) → Event → SendRefusal → Type 0
IsRunSendFault size stated e (NotRunning gate) = ⊤
IsRunSendFault size stated e refusal = IsSendFault size stated e refusal
