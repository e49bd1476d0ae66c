-- What a caller's own calls on a buffer tell of its clients and its requests. A point of a caller's own calls is the list of
-- those before it, the latest first.
use Rattle.std.specs.Prelude.{◌≡◌, ◌≢◌, ℕ, ◌==◌, ◌≤◌, ◌&&◌, nat_le, nat_lt, Bool, true, false, if◌then◌else◌, List, [], ◌∷◌, ◌++◌, map, Ok, ⊤}
use Rattle.daq_types.specs.declared.events.Event.{Event}
use Rattle.buffer_core.specs.declared.replies.Received.{Received}
use Rattle.buffer_core.specs.declared.replies.Received.TheVariants.{Got, Empty}
use Rattle.buffer_core.specs.declared.entry.BufferEntry.{BufferEntry}
use Rattle.buffer_core.specs.declared.entry.BufferEntry.TheVariants.{Detach, Request, Cancel, Send, SendInRun, Receive}
use Rattle.buffer_core.specs.Points.{News, Attached, news_of}
use Rattle.buffer_core.specs.Readers.{LeavesRequests}
use Rattle.buffer_core.specs.Ports.{GotEvent, name_of, names_given}

-- the point behind these calls, which follow this point
abbrev pub calls_after : List BufferEntry → (calls : List BufferEntry) → List BufferEntry
calls_after past [] = past
calls_after past (e ∷ es) = calls_after (e ∷ past) es

abbrev pub gives_after : News → (client : ℕ) → Bool → Bool
gives_after (Attached n) client before = if n == client then true else before
gives_after news client before = before

-- an attach among these calls gave this number
abbrev pub gave_number : List BufferEntry → (client : ℕ) → Bool
gave_number [] client = false
gave_number (e ∷ es) client = gives_after (news_of e) client (gave_number es client)

-- a call of one who names only clients that its own attach gave, and detaches none
abbrev pub IsOwnCall : BufferEntry → (before : List BufferEntry) → Type 0
IsOwnCall (Detach client reply) es = ⊥
IsOwnCall (Request client id mask kind reply) es = gave_number es client ≡ true
IsOwnCall (Cancel client number reply) es = gave_number es client ≡ true
IsOwnCall (Receive client room reply) es = gave_number es client ≡ true
IsOwnCall entry es = ⊤

-- all of these calls are so
abbrev pub AreOwnCalls : List BufferEntry → Type 0
AreOwnCalls [] = ⊤
AreOwnCalls (e ∷ es) = IsOwnCall e es × AreOwnCalls es

-- a call that sends nothing
abbrev pub SendsNone : BufferEntry → Type 0
SendsNone (Send stated e reply) = ⊥
SendsNone (SendInRun start stated e reply) = ⊥
SendsNone entry = ⊤

-- Requests.

abbrev pub asks_after : BufferEntry → (client number : ℕ) → Bool → Bool
asks_after (Request c id mask kind (Ok n)) client number before = if c == client then (if n == number then true else before) else before
asks_after (Cancel c n reply) client number before = if c == client then (if n == number then false else before) else before
asks_after entry client number before = before

-- the request of this number was made for the client, and `cancel` was not called for it since
abbrev pub asks : List BufferEntry → (client number : ℕ) → Bool
asks [] client number = false
asks (e ∷ es) client number = asks_after e client number (asks es client number)

-- no request of the client is made or cancelled, with any reply, and the client is neither attached nor detached
abbrev pub LeavesAsking : (client : ℕ) → BufferEntry → Type 0
LeavesAsking client (Request c id mask kind reply) = c ≢ client
LeavesAsking client (Cancel c n reply) = c ≢ client
LeavesAsking client e = LeavesRequests client (news_of e)

abbrev pub KeepsAsking : (client : ℕ) → (calls : List BufferEntry) → Type 0
KeepsAsking client [] = ⊤
KeepsAsking client (e ∷ es) = LeavesAsking client e × KeepsAsking client es

-- the reply is that of a client that has read all places below this one
abbrev pub HasDrained : (end : ℕ) → Received → Type 0
HasDrained end (Got place start) = end ≤ place
HasDrained end (Empty gate last) = ⊤
HasDrained end reply = ⊥

-- Events got.

-- these calls gave these events
pub record AreGivenBy (calls : List BufferEntry) (given : List GotEvent) : Type 0 where
  pub named_so : names_given calls ≡ map name_of given

-- the place is one from this on, and below that
abbrev pub is_place_within : (from to place : ℕ) → Bool
is_place_within from to place = nat_le from place && nat_lt place to

-- the event, where it is that of the client at a place that passes the test
abbrev pub event_at : (client : ℕ) → (test : ℕ → Bool) → GotEvent → List Event
event_at client test g = if (g.client == client) && test g.place then g.event ∷ [] else []

-- the events that the client got at places that pass the test, in order
abbrev pub events_at : (client : ℕ) → (test : ℕ → Bool) → List GotEvent → List Event
events_at client test [] = []
events_at client test (g ∷ gs) = event_at client test g ++ events_at client test gs
