-- What a buffer is: a window on the list of all events that were ever accepted. The places of events count them from 0.
use Rattle.std.specs.Prelude.{◌≡◌, ℕ, ◌+◌, ◌-◌, ◌*◌, ◌^◌, ◌≤◌, Bool, true, false, ◌&&◌, nat_le, if◌then◌else◌, List, [], length, replicate, sum_by, slice_get, Option, Some, None}
use Rattle.daq_types.specs.declared.events.Event.{Event}
use Rattle.daq_types.specs.declared.runs.Kind.{Kind}
use Rattle.daq_types.specs.declared.runs.Kind.TheVariants.{All, NonBlocking}
use Rattle.event.specs.Events.{slot_size, matches, is_reserved, event_limit}
pub use Rattle.event.specs.Events.{any}
use Rattle.buffer_core.specs.declared.gate.RunGate.{RunGate}
use Rattle.buffer_core.specs.declared.gate.RunGate.TheVariants.{Shut, Running, Paused}
use Rattle.buffer_core.specs.declared.client.Request.{Request}
use Rattle.buffer_core.specs.declared.client.Client.{Client}
use Rattle.buffer_core.specs.Slots.{slot_at, some_slot}

-- an event as it was accepted: with the start number of its run, or 0
pub record Sent : Type 0 where
  pub event : Event
  pub start : ℕ

-- a buffer: its size in bytes; the place of the first kept event; the kept events in order; the clients, by number;
-- the run gate; the last start number; and the room that all events ever accepted took together
pub record Window : Type 0 where
  pub size : ℕ
  pub first : ℕ
  pub kept : List Sent
  pub clients : List (Option Client)
  pub gate : RunGate
  pub last : ℕ
  pub total : ℕ

-- nobody is attached: all 64 numbers are free
unfoldable pub no_clients : List (Option Client)
no_clients = replicate 64 None

-- all ten numbers of a client's requests are free
unfoldable pub no_requests : List (Option Request)
no_requests = replicate 10 None

-- a buffer as it opens
abbrev pub opening : (size : ℕ) → Window
opening size = record { size = size; first = 0; kept = []; clients = no_clients; gate = Shut; last = 0; total = 0 }

-- the room that a kept event takes
abbrev pub slot_of_sent : Sent → ℕ
slot_of_sent s = slot_size s.event

-- the room that the kept events take together
abbrev pub level_of : Window → ℕ
level_of w = sum_by slot_of_sent w.kept

-- how many events were ever accepted: the place of the next
abbrev pub accepted_of : Window → ℕ
accepted_of w = w.first + length w.kept

-- the kept event of this place
abbrev pub kept_at : Window → (place : ℕ) → Option Sent
kept_at w place = if nat_le w.first place then slice_get w.kept (place - w.first) else None

-- the event stands among these, the first of which has this place, at that place
pub record StandsAt (ss : List Sent) (first place : ℕ) (s : Sent) : Type 0 where
  pub index : ℕ
  pub place_is : place ≡ first + index
  pub is : slice_get ss index ≡ Some s

-- What clients want.

-- the request wants this event, which was sent after it
abbrev pub covers : (place : ℕ) → Event → Request → Bool
covers place e q = nat_le q.since place && matches q.id q.mask e

-- the client has not come to this place yet, and one of its requests wants the event
abbrev pub wants : (place : ℕ) → Event → Client → Bool
wants place e c = nat_le c.next place && some_slot (covers place e) c.requests

abbrev pub is_all : Kind → Bool
is_all All = true
is_all NonBlocking = false

-- the request wants the event, and asks that it is kept until the client got it
abbrev pub holds_back : (place : ℕ) → Event → Request → Bool
holds_back place e q = is_all q.kind && covers place e q

-- the client has not come to this place yet, and has to get the event
abbrev pub owes : (place : ℕ) → Event → Client → Bool
owes place e c = nat_le c.next place && some_slot (holds_back place e) c.requests

-- What holds in every window.

-- an open gate carries the last start number
abbrev pub IsLast : RunGate → ℕ → Type 0
IsLast Shut last = 0 ≤ last
IsLast (Running start) last = start ≡ last
IsLast (Paused start) last = start ≡ last

-- an event that a buffer may keep
pub record IsKeepable (s : Sent) : Type 0 where
  pub small : length s.event.body ≤ event_limit
  pub free : is_reserved s.event.id ≡ false

pub record IsClient (first accepted : ℕ) (c : Client) : Type 0 where
  pub from : first ≤ c.next
  pub to : c.next ≤ accepted
  pub ten : length c.requests ≡ 10
  pub since : (n : ℕ) (q : Request) → slot_at c.requests n ≡ Some q → q.since ≤ accepted

pub record IsWindow (w : Window) : Type 0 where
  pub keepable : (i : ℕ) (s : Sent) → slice_get w.kept i ≡ Some s → IsKeepable s
  pub starts : (i : ℕ) (s : Sent) → slice_get w.kept i ≡ Some s → s.start ≤ w.last
  pub fits : level_of w ≤ w.size
  pub spent : w.total ≤ 2 ^ 62
  pub level : level_of w ≤ w.total
  pub paid : 24 * accepted_of w ≤ w.total
  pub places : length w.clients ≡ 64
  pub clients : (n : ℕ) (c : Client) → slot_at w.clients n ≡ Some c → IsClient w.first (accepted_of w) c
  pub gate : IsLast w.gate w.last
