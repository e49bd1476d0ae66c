-- What clients get of a buffer, and when a send is refused: read off the calls and their replies alone.
use Rattle.std.specs.Prelude.{◌≡◌, ◌≢◌, ℕ, ◌+◌, ◌^◌, ◌<◌, ◌≤◌, true, false, IsTrue, List, [], ◌∷◌, length, drop, sum_by, slice_get, Option, Some, None, Result, Ok, Err, ⊤, ◌⊎◌}
use Rattle.daq_types.specs.declared.events.Event.{Event}
use Rattle.event.specs.Events.{slot_size, is_reserved, event_limit}
use Rattle.buffer_core.specs.declared.client.Request.{Request as EventRequest}
use Rattle.buffer_core.specs.declared.replies.SendRefusal.{SendRefusal}
use Rattle.buffer_core.specs.declared.replies.SendRefusal.TheVariants.{NotRunning, BadSize, ReservedId, TooLarge, Spent, Full}
use Rattle.buffer_core.specs.declared.gate.RunGate.TheVariants.{Running}
use Rattle.buffer_core.specs.declared.replies.Received.TheVariants.{Got, Empty}
use Rattle.buffer_core.specs.declared.entry.BufferEntry.{BufferEntry}
use Rattle.buffer_core.specs.declared.entry.BufferEntry.TheVariants.{Send, SendInRun, Receive}
use Rattle.buffer_core.specs.Window.{Sent, slot_of_sent, is_all}
use Rattle.buffer_core.specs.Points.{Life, life_at, sent, count_at, IsWanted, IsDue, past_of}
use Rattle.buffer_core.specs.Runs.{IsGateAt}

abbrev pub IsIn : ℕ → List ℕ → Type 0
IsIn p [] = ⊥
IsIn p (q ∷ qs) = (p ≡ q) ⊎ IsIn p qs

-- What a client gets.

-- at this point the client may get the event of this place, sent with this start number: it lives and has got only
-- places below this one, and the event was sent before and is wanted by one of its living requests
pub record IsRightGot (past : List (ℕ × BufferEntry)) (client place start : ℕ) : Type 0 where
  pub life : Life
  pub number : ℕ
  pub request : EventRequest
  pub event : Sent
  pub lives : life_at past client ≡ Some life
  pub rises : (q : ℕ) → IsIn q life.places → q < place
  pub wanted : IsWanted past client place number request event
  pub started : event.start ≡ start

-- at this point the client has got, in this life, each place below this one that a living request for all events wants
abbrev pub HasAllBelow : List (ℕ × BufferEntry) → (client place : ℕ) → Type 0
HasAllBelow past client place =
    (life : Life) (q number : ℕ) (request : EventRequest) (event : Sent) → life_at past client ≡ Some life →
    IsWanted past client q number request event → IsTrue (is_all request.kind) → q < place → IsIn q life.places

-- When a send is refused. It is tested in this order, and each refusal comes where those before it do not.

-- the header states the length of the data, which is within the limit
abbrev pub IsStatedRightly : (stated : ℕ) → Event → Type 0
IsStatedRightly stated e = (stated ≡ length e.body) × (stated ≤ event_limit)

-- and the id is no reserved one
abbrev pub HasFreeId : (stated : ℕ) → Event → Type 0
HasFreeId stated e = IsStatedRightly stated e × (is_reserved e.id ≡ false)

-- and the event fits into the buffer
abbrev pub FitsAtAll : (size stated : ℕ) → Event → Type 0
FitsAtAll size stated e = HasFreeId stated e × (slot_size e ≤ size)

-- and with it all events that were ever sent take at most 2^62 bytes
abbrev pub IsUnspent : (size : ℕ) → List (ℕ × BufferEntry) → (stated : ℕ) → Event → Type 0
IsUnspent size past stated e = FitsAtAll size stated e × (sum_by slot_of_sent (sent past) + slot_size e ≤ 2 ^ 62)

-- the events that were sent from this place on, and this one, do not fit together
abbrev pub IsTooMuch : (size : ℕ) → List (ℕ × BufferEntry) → (place : ℕ) → Event → Type 0
IsTooMuch size past place e = size < sum_by slot_of_sent (drop place (sent past)) + slot_size e

-- no event that is due stands in the way of this one
abbrev pub HasWay : (size : ℕ) → List (ℕ × BufferEntry) → Event → Type 0
HasWay size past e = (client place : ℕ) → IsDue past client place → IsTooMuch size past place e → ⊥

-- the event of this place does: it is the first that is due to any client and from which on the events do not fit, and
-- this is the client of the least number that it is due to
pub record IsInTheWay (size : ℕ) (past : List (ℕ × BufferEntry)) (e : Event) (client place : ℕ) : Type 0 where
  pub due : IsDue past client place
  pub too_much : IsTooMuch size past place e
  pub least_place : (c q : ℕ) → IsDue past c q → IsTooMuch size past q e → place ≤ q
  pub least_client : (c : ℕ) → IsDue past c place → client ≤ c

-- A send in no run is refused for its cause, and names it: what the header states and the data has, the id, the room that the
-- event takes and the buffer has, the room of all that were sent; and where none of these stops it, exactly where a due event
-- is in the way.
abbrev pub IsRightSend : (size : ℕ) → List (ℕ × BufferEntry) → (stated : ℕ) → Event → Result ℕ SendRefusal → Type 0
IsRightSend size past stated e (Ok n) = HasWay size past e
IsRightSend size past stated e (Err (NotRunning gate)) = ⊥
IsRightSend size past stated e (Err (BadSize said given)) = (said ≡ stated) × ((given ≡ length e.body) × (IsStatedRightly stated e → ⊥))
IsRightSend size past stated e (Err (ReservedId id)) = IsStatedRightly stated e × ((id ≡ e.id) × (is_reserved e.id ≡ true))
IsRightSend size past stated e (Err (TooLarge slot whole)) = HasFreeId stated e × ((slot ≡ slot_size e) × ((whole ≡ size) × (size < slot_size e)))
IsRightSend size past stated e (Err (Spent total)) = FitsAtAll size stated e × ((total ≡ sum_by slot_of_sent (sent past)) × (2 ^ 62 < total + slot_size e))
IsRightSend size past stated e (Err (Full client place)) = IsUnspent size past stated e × IsInTheWay size past e client place

-- a send in a run is refused first of all, and with the gate, exactly where that run is not on by the marks before
abbrev pub IsRightRunSend : (size : ℕ) → List (ℕ × BufferEntry) → (start stated : ℕ) → Event → Result ℕ SendRefusal → Type 0
IsRightRunSend size past start stated e (Err (NotRunning gate)) = IsGateAt past gate × (IsGateAt past (Running start) → ⊥)
IsRightRunSend size past start stated e reply = IsGateAt past (Running start) × IsRightSend size past stated e reply

-- How much a client gets.

abbrev pub slot_of_place : Option Sent → ℕ
slot_of_place None = 0
slot_of_place (Some s) = slot_of_sent s

-- the room that the events of these places take together
abbrev pub slots_of_places : List Sent → (places : List ℕ) → ℕ
slots_of_places ss [] = 0
slots_of_places ss (p ∷ ps) = slot_of_place (slice_get ss p) + slots_of_places ss ps

-- what a client got in its life takes at most 2^62 bytes
abbrev pub IsBounded : List (ℕ × BufferEntry) → Type 0
IsBounded past = (client : ℕ) (life : Life) → life_at past client ≡ Some life → slots_of_places (sent past) life.places ≤ 2 ^ 62

-- The whole history, by its four parts.

-- the client may get what it got by this entry
abbrev pub IsInOrder : List (ℕ × BufferEntry) → BufferEntry → Type 0
IsInOrder past (Receive client room (Got place start)) = IsRightGot past client place start
IsInOrder past entry = ⊤

-- the client got before this entry all that it had to get
abbrev pub IsComplete : List (ℕ × BufferEntry) → BufferEntry → Type 0
IsComplete past (Receive client room (Got place start)) = HasAllBelow past client place
IsComplete past (Receive client room (Empty gate last)) = HasAllBelow past client (count_at past)
IsComplete past entry = ⊤

-- the send is refused for its cause, and as full where it has to be
abbrev pub IsHeldBack : (size : ℕ) → List (ℕ × BufferEntry) → BufferEntry → Type 0
IsHeldBack size past (Send stated e reply) = IsRightSend size past stated e reply
IsHeldBack size past (SendInRun start stated e reply) = IsRightRunSend size past start stated e reply
IsHeldBack size past entry = ⊤

-- each entry up to this point meets this where it came
abbrev pub Throughout : (List (ℕ × BufferEntry) → BufferEntry → Type 0) → List (ℕ × BufferEntry) → Type 0
Throughout P [] = ⊤
Throughout P (e ∷ past) = P past e.1 × Throughout P past

-- no client got too much at any point up to this one
abbrev pub StaysBounded : List (ℕ × BufferEntry) → Type 0
StaysBounded [] = ⊤
StaysBounded (e ∷ past) = IsBounded (e ∷ past) × StaysBounded past

-- the four parts of what a buffer delivers
pub data DeliveryPart : Type 0 where
  InOrder : DeliveryPart
  Complete : DeliveryPart
  HeldBack : DeliveryPart
  Bounded : DeliveryPart

abbrev pub MeetsPart : DeliveryPart → (size : ℕ) → (history : List (ℕ × BufferEntry)) → Type 0
MeetsPart InOrder size h = Throughout IsInOrder (past_of h)
MeetsPart Complete size h = Throughout IsComplete (past_of h)
MeetsPart HeldBack size h = Throughout (IsHeldBack size) (past_of h)
MeetsPart Bounded size h = StaysBounded (past_of h)

-- In each life of a client: the places that it gets rise, and each is of an event that was sent before, with the start
-- number replied, and that one of its living requests wants. When it gets a place or finds none, it has got before all
-- events below that place, or all that were sent, that one of its living requests for all events wants. A send is
-- refused for its cause: in a run, exactly where that is not on; by what its header states, its id, its length, and the room of
-- all that were sent; and as full exactly where an event is due to a client from which on the events do not fit, and then it
-- names the first such place and the least such client. What a client gets takes at most 2^62 bytes.
pub record Delivers (size : ℕ) (history : List (ℕ × BufferEntry)) : Type 0 where
  pub in_order : MeetsPart InOrder size history
  pub complete : MeetsPart Complete size history
  pub held_back : MeetsPart HeldBack size history
  pub bounded : MeetsPart Bounded size history

-- the history fails this part, and meets the other three
pub record FailsAlone (part : DeliveryPart) (size : ℕ) (history : List (ℕ × BufferEntry)) : Type 0 where
  pub fails : MeetsPart part size history → ⊥
  pub others : (other : DeliveryPart) → other ≢ part → MeetsPart other size history
