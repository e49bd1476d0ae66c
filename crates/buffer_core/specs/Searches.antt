-- The three searches of a buffer's step, in plain words: what a receive finds, what stands in the way of a send, and how many
-- events go for one. The kept events are given with the place of the first of them.
use Rattle.std.specs.Prelude.{◌≡◌, ℕ, ◌+◌, ◌≤◌, List, drop, sum_by, Option, Some, None}
use Rattle.daq_types.specs.declared.events.Event.{Event}
use Rattle.daq_types.specs.declared.runs.Kind.TheVariants.{All}
use Rattle.event.specs.Events.{Matches}
use Rattle.buffer_core.specs.declared.client.Request.{Request}
use Rattle.buffer_core.specs.declared.client.Client.{Client}
use Rattle.buffer_core.specs.Slots.{slot_at}
use Rattle.buffer_core.specs.Window.{Sent, slot_of_sent, StandsAt}
use Rattle.buffer_core.specs.Calls.{found_in, owed_in, to_drop}

-- the client has not come to this place yet, and a living request of it, of any kind, which was made before the event of this
-- place was sent, matches the event
pub record IsAskedFor (c : Client) (place : ℕ) (e : Event) : Type 0 where
  pub ahead : c.next ≤ place
  pub number : ℕ
  pub request : Request
  pub lives : slot_at c.requests number ≡ Some request
  pub since : request.since ≤ place
  pub matched : Matches request.id request.mask e

-- and that request is one for all events
pub record IsOwedTo (c : Client) (place : ℕ) (e : Event) : Type 0 where
  pub asked : IsAskedFor c place e
  pub all : asked.request.kind ≡ All

-- What a receive finds.

-- the event of the least place that the client asks for
pub record IsFirstAsked (c : Client) (first : ℕ) (kept : List Sent) (place : ℕ) (s : Sent) : Type 0 where
  pub stands : StandsAt kept first place s
  pub asked : IsAskedFor c place s.event
  pub least : (q : ℕ) (t : Sent) → StandsAt kept first q t → IsAskedFor c q t.event → place ≤ q

abbrev pub NoneIsAsked : Client → (first : ℕ) → List Sent → Type 0
NoneIsAsked c first kept = (q : ℕ) (t : Sent) → StandsAt kept first q t → IsAskedFor c q t.event → ⊥

abbrev pub FoundIsFirst : Type 0
FoundIsFirst = (c : Client) (first : ℕ) (kept : List Sent) (place : ℕ) (s : Sent) → found_in c first kept ≡ Some (place, s) → IsFirstAsked c first kept place s

abbrev pub FirstIsFound : Type 0
FirstIsFound = (c : Client) (first : ℕ) (kept : List Sent) (place : ℕ) (s : Sent) → IsFirstAsked c first kept place s → found_in c first kept ≡ Some (place, s)

abbrev pub NotFoundIsNone : Type 0
NotFoundIsNone = (c : Client) (first : ℕ) (kept : List Sent) → found_in c first kept ≡ None → NoneIsAsked c first kept

abbrev pub NoneIsNotFound : Type 0
NoneIsNotFound = (c : Client) (first : ℕ) (kept : List Sent) → NoneIsAsked c first kept → found_in c first kept ≡ None

-- What stands in the way of a send.

-- the event of this place is owed to the client of this number
pub record IsOwed (clients : List (Option Client)) (first : ℕ) (kept : List Sent) (client place : ℕ) : Type 0 where
  pub sent : Sent
  pub reader : Client
  pub stands : StandsAt kept first place sent
  pub lives : slot_at clients client ≡ Some reader
  pub owed : IsOwedTo reader place sent.event

-- the least place that is owed, and the least client that it is owed to
pub record IsLeastOwed (clients : List (Option Client)) (first : ℕ) (kept : List Sent) (client place : ℕ) : Type 0 where
  pub owed : IsOwed clients first kept client place
  pub least_place : (c q : ℕ) → IsOwed clients first kept c q → place ≤ q
  pub least_client : (c : ℕ) → IsOwed clients first kept c place → client ≤ c

abbrev pub NoneIsOwed : List (Option Client) → (first : ℕ) → List Sent → Type 0
NoneIsOwed clients first kept = (c q : ℕ) → IsOwed clients first kept c q → ⊥

abbrev pub OwedIsLeast : Type 0
OwedIsLeast = (clients : List (Option Client)) (first : ℕ) (kept : List Sent) (client place : ℕ) → owed_in clients first kept ≡ Some (client, place) → IsLeastOwed clients first kept client place

abbrev pub LeastIsOwed : Type 0
LeastIsOwed = (clients : List (Option Client)) (first : ℕ) (kept : List Sent) (client place : ℕ) → IsLeastOwed clients first kept client place → owed_in clients first kept ≡ Some (client, place)

abbrev pub NotOwedIsNone : Type 0
NotOwedIsNone = (clients : List (Option Client)) (first : ℕ) (kept : List Sent) → owed_in clients first kept ≡ None → NoneIsOwed clients first kept

abbrev pub NoneIsNotOwed : Type 0
NoneIsNotOwed = (clients : List (Option Client)) (first : ℕ) (kept : List Sent) → NoneIsOwed clients first kept → owed_in clients first kept ≡ None

-- How many events go.

-- the least number of events that have to go, from the front, so that with the others this slot fits
pub record IsLeastDrop (size slot : ℕ) (kept : List Sent) (count : ℕ) : Type 0 where
  pub fits : sum_by slot_of_sent (drop count kept) + slot ≤ size
  pub least : (n : ℕ) → sum_by slot_of_sent (drop n kept) + slot ≤ size → count ≤ n

abbrev pub DropIsLeast : Type 0
DropIsLeast = (size slot : ℕ) (kept : List Sent) (count : ℕ) → slot ≤ size → to_drop slot_of_sent size slot kept ≡ count → IsLeastDrop size slot kept count

abbrev pub LeastIsDrop : Type 0
LeastIsDrop = (size slot : ℕ) (kept : List Sent) (count : ℕ) → IsLeastDrop size slot kept count → to_drop slot_of_sent size slot kept ≡ count
