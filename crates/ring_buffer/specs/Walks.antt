-- Kept events that are gone over from one position to another.
use Rattle.std.specs.Prelude.{◌≡◌, ℕ, ◌+◌, ◌-◌, ◌≤◌, ◌<◌, List, take, drop, sum_by, length, Option, Some, None}
use Rattle.event.specs.Headers.{fields_of}
use Rattle.buffer_core.specs.declared.client.Client.{Client}
use Rattle.buffer_core.specs.Slots.{slot_at}
use Rattle.buffer_core.specs.Window.{Sent, slot_of_sent}
use Rattle.buffer_core.specs.Calls.{to_drop, owed_in, found_in}
use Rattle.ring_buffer.specs.declared.walk.Position.{Position}
use Rattle.ring_buffer.specs.declared.walk.Found.{Found}
use Rattle.ring_buffer.specs.RingHolds.{HoldsEvents}
use Rattle.ring_buffer.specs.Stored.{ring_event_at, ring_events_at, AllFit}

-- the events from one position up to the place of another
abbrev pub ring_between : (ring : List ℕ) → (from end : Position) → List Sent
ring_between ring from end = ring_events_at ring from.off (end.place - from.place)

-- from the first position on stand the events, up to the second
pub record IsWalk (ring : List ℕ) (from end : Position) : Type 0 where
  pub order : from.place ≤ end.place
  pub holds : HoldsEvents ring from.off (ring_between ring from end)
  pub fit : AllFit (ring_between ring from end)
  pub level : from.off + sum_by slot_of_sent (ring_between ring from end) ≡ end.off

-- this position is on the way: the walk from there on is the rest of the whole
pub record IsOnWay (ring : List ℕ) (from at end : Position) : Type 0 where
  pub later : from.place ≤ at.place
  pub walk : IsWalk ring at end
  pub rest : ring_between ring at end ≡ drop (at.place - from.place) (ring_between ring from end)

-- how many of the events have to go so that one of this slot fits
abbrev pub to_go : (ring : List ℕ) → (from end : Position) → (slot : ℕ) → ℕ
to_go ring from end slot = to_drop slot_of_sent (length ring) slot (ring_between ring from end)

-- the first of these that is owed to a client
abbrev pub in_the_way : (ring : List ℕ) → List (Option Client) → (from end : Position) → (slot : ℕ) → Option (ℕ × ℕ)
in_the_way ring clients from end slot = owed_in clients from.place (take (to_go ring from end slot) (ring_between ring from end))

-- all of these have to go, and none is owed
pub record IsWay (ring : List ℕ) (clients : List (Option Client)) (from at end : Position) (slot : ℕ) : Type 0 where
  pub on_way : IsOnWay ring from at end
  pub place : at.place ≡ from.place + to_go ring from end slot
  pub free : in_the_way ring clients from end slot ≡ None

-- what was found is the first event that the client has yet to be given
pub record IsFoundFor (ring : List ℕ) (clients : List (Option Client)) (client : ℕ) (from end : Position) (f : Found) : Type 0 where
  pub on_way : IsOnWay ring from f.at end
  pub early : f.at.place < end.place
  pub start : f.front.start ≡ (ring_event_at ring f.at.off).start
  pub header : f.front.header ≡ fields_of (ring_event_at ring f.at.off).event
  pub found : (c : Client) → slot_at clients client ≡ Some c → found_in c from.place (ring_between ring from end) ≡ Some (f.at.place, ring_event_at ring f.at.off)

abbrev pub FindsNothing : (ring : List ℕ) → List (Option Client) → (client : ℕ) → (from end : Position) → Type 0
FindsNothing ring clients client from end = (c : Client) → slot_at clients client ≡ Some c → found_in c from.place (ring_between ring from end) ≡ None
