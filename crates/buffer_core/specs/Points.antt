-- What the calls of a buffer and their replies tell, by themselves: nothing here looks into the buffer.
-- A point of a history is the list of the entries before it, the latest first.
use Rattle.std.specs.Prelude.{◌≡◌, ℕ, ◌+◌, ◌≤◌, ◌==◌, if◌then◌else◌, IsTrue, List, [], ◌∷◌, ◌++◌, length, slice_get, Option, Some, None, Ok, max}
use Rattle.std.specs.Option.{option_map}
use Rattle.daq_types.specs.declared.runs.Kind.{Kind}
use Rattle.event.specs.Events.{Matches}
use Rattle.buffer_core.specs.declared.client.Request.{Request as EventRequest}
use Rattle.buffer_core.specs.declared.replies.Received.TheVariants.{Got, Empty}
use Rattle.buffer_core.specs.declared.entry.BufferEntry.{BufferEntry}
use Rattle.buffer_core.specs.declared.entry.BufferEntry.TheVariants.{Attach, Detach, Request, Cancel, Send, SendInRun, Receive}
use Rattle.buffer_core.specs.Window.{Sent, is_all}

-- the point behind these entries, which follow this point
abbrev pub past_after : List (ℕ × BufferEntry) → (entries : List (ℕ × BufferEntry)) → List (ℕ × BufferEntry)
past_after past [] = past
past_after past (e ∷ es) = past_after (e ∷ past) es

-- the end of a history
abbrev pub past_of : (history : List (ℕ × BufferEntry)) → List (ℕ × BufferEntry)
past_of h = past_after [] h

-- what an entry tells of clients, requests and events
pub data News : Type 0 where
  Nothing : News
  Attached : (client : ℕ) → News
  Detached : (client : ℕ) → News
  Requested : (client number id mask : ℕ) (kind : Kind) → News
  Cancelled : (client number : ℕ) → News
  Taken : (sent : Sent) → News
  Gave : (client place : ℕ) → News
  Drained : (client : ℕ) → News

-- a refusal tells nothing
abbrev pub news_of : BufferEntry → News
news_of (Attach name (Ok n)) = Attached n
news_of (Detach client (Ok u)) = Detached client
news_of (Request client id mask kind (Ok n)) = Requested client n id mask kind
news_of (Cancel client request (Ok u)) = Cancelled client request
news_of (Send stated e (Ok n)) = Taken (record { event = e; start = 0 })
news_of (SendInRun start stated e (Ok n)) = Taken (record { event = e; start = start })
news_of (Receive client room (Got place start)) = Gave client place
news_of (Receive client room (Empty gate last)) = Drained client
news_of entry = Nothing

-- The events.

abbrev pub sent_after : News → List Sent → List Sent
sent_after (Taken s) ss = ss ++ s ∷ []
sent_after news ss = ss

-- the events of the accepted sends, in order, each with the start number that it was sent with, or 0; places count
-- them from 0
abbrev pub sent : List (ℕ × BufferEntry) → List Sent
sent [] = []
sent (e ∷ past) = sent_after (news_of e.1) (sent past)

-- how many there are: the place of the next
abbrev pub count_at : List (ℕ × BufferEntry) → ℕ
count_at past = length (sent past)

-- The lives of clients and of requests.

-- a life of a client begins where its number is given and ends where that is detached: the count where it began, the
-- places of the events that it got in this life, the last one first, and the count where it last found none
pub record Life : Type 0 where
  pub joined : ℕ
  pub places : List ℕ
  pub drained : ℕ

-- the place behind the one that was got last
abbrev pub got_end : List ℕ → ℕ
got_end [] = 0
got_end (place ∷ places) = place + 1

-- how far the client has read: the greatest of the count where it joined, the place behind the one that it got last,
-- and the count where it last found none
abbrev pub reached : Life → ℕ
reached l = max (max l.joined (got_end l.places)) l.drained

abbrev pub life_got : (place : ℕ) → Life → Life
life_got place l = record { joined = l.joined; places = place ∷ l.places; drained = l.drained }

abbrev pub life_drained : (count : ℕ) → Life → Life
life_drained count l = record { joined = l.joined; places = l.places; drained = count }

abbrev pub life_after : News → (count client : ℕ) → Option Life → Option Life
life_after (Attached n) count client before = if n == client then Some (record { joined = count; places = []; drained = 0 }) else before
life_after (Detached n) count client before = if n == client then None else before
life_after (Gave n place) count client before = if n == client then option_map (life_got place) before else before
life_after (Drained n) count client before = if n == client then option_map (life_drained count) before else before
life_after news count client before = before

-- the life of this client in which the point is, if it is in one
abbrev pub life_at : List (ℕ × BufferEntry) → (client : ℕ) → Option Life
life_at [] client = None
life_at (e ∷ past) client = life_after (news_of e.1) (count_at past) client (life_at past client)

abbrev pub request_after : News → (count client number : ℕ) → Option EventRequest → Option EventRequest
request_after (Attached n) count client number before = if n == client then None else before
request_after (Detached n) count client number before = if n == client then None else before
request_after (Requested n m id mask kind) count client number before =
    if n == client then (if m == number then Some (record { id = id; mask = mask; kind = kind; since = count }) else before) else before
request_after (Cancelled n m) count client number before = if n == client then (if m == number then None else before) else before
request_after news count client number before = before

-- the request of this client and number that lives at the point, if there is one: made there, with the count of then,
-- and not cancelled since, nor its client detached
abbrev pub request_at : List (ℕ × BufferEntry) → (client number : ℕ) → Option EventRequest
request_at [] client number = None
request_at (e ∷ past) client number = request_after (news_of e.1) (count_at past) client number (request_at past client number)

-- What a client is to get.

-- at this point the client's request of this number lives, and it wants the event that was sent at this place
pub record IsWanted (past : List (ℕ × BufferEntry)) (client place number : ℕ) (request : EventRequest) (event : Sent) : Type 0 where
  pub lives : request_at past client number ≡ Some request
  pub since : request.since ≤ place
  pub is_sent : slice_get (sent past) place ≡ Some event
  pub matched : Matches request.id request.mask event.event

-- the place is due to the client: the client lives and has not read so far, the place was sent, and a request for all
-- events wants it
pub record IsDue (past : List (ℕ × BufferEntry)) (client place : ℕ) : Type 0 where
  pub life : Life
  pub number : ℕ
  pub request : EventRequest
  pub event : Sent
  pub lives : life_at past client ≡ Some life
  pub ahead : reached life ≤ place
  pub wanted : IsWanted past client place number request event
  pub all : IsTrue (is_all request.kind)
