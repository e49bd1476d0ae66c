-- The calls of a buffer: the reply of each, and the window after it.
use Rattle.std.specs.Prelude.{◌≡◌, ℕ, suc, ◌+◌, ◌^◌, Bool, ◌&&◌, ◌==◌, nat_lt, nat_le, if◌then◌else◌, false, List, [], ◌∷◌, ◌++◌, length, take, drop, sum_by, slice_set, Option, Some, None, Result, Ok, Err, max, unwrap_or, ⊤}
use Rattle.std.specs.Option.{option_map, ok_or}
use Rattle.daq_types.specs.declared.events.Event.{Event}
use Rattle.event.specs.Events.{slot_size, is_reserved, event_limit}
use Rattle.buffer_core.specs.declared.gate.RunGate.{RunGate}
use Rattle.buffer_core.specs.declared.gate.RunGate.TheVariants.{Shut, Running, Paused}
use Rattle.buffer_core.specs.declared.client.Request.{Request as EventRequest}
use Rattle.buffer_core.specs.declared.client.Client.{Client}
use Rattle.buffer_core.specs.declared.replies.NoSlot.{NoSlot}
use Rattle.buffer_core.specs.declared.replies.NoClient.{NoClient}
use Rattle.buffer_core.specs.declared.replies.RequestRefusal.{RequestRefusal}
use Rattle.buffer_core.specs.declared.replies.RequestRefusal.TheVariants.{NoClient as NoSuchClient, NoRequestSlot, NoRequest}
use Rattle.buffer_core.specs.declared.replies.SendRefusal.{SendRefusal}
use Rattle.buffer_core.specs.declared.replies.SendRefusal.TheVariants.{NotRunning, BadSize, ReservedId, TooLarge, Spent, Full}
use Rattle.buffer_core.specs.declared.replies.Received.{Received}
use Rattle.buffer_core.specs.declared.replies.Received.TheVariants.{Got, Empty, NoClient as NoReader, SmallBuf}
use Rattle.buffer_core.specs.declared.replies.MarkRefusal.{MarkRefusal}
use Rattle.buffer_core.specs.declared.replies.MarkRefusal.TheVariants.{GateOpen, OldStart, WrongGate}
use Rattle.buffer_core.specs.declared.entry.BufferEntry.{BufferEntry}
use Rattle.buffer_core.specs.declared.entry.BufferEntry.TheVariants.{Attach, Detach, Request, Cancel, Send, SendInRun, Receive, Begin, Pause, Resume, End, Level, Accepted}
use Rattle.buffer_core.specs.Slots.{slot_at, free_slot, first_slot, change_slot, change_all}
use Rattle.buffer_core.specs.Window.{Sent, Window, no_requests, slot_of_sent, level_of, accepted_of, kept_at, wants, owes}

-- Clients and requests.

-- the refusals that have one value
abbrev pub no_slot : NoSlot
no_slot = record {}

abbrev pub no_client : NoClient
no_client = record {}

-- the least free number
abbrev pub attach_reply : Window → Result ℕ NoSlot
attach_reply w = ok_or (free_slot w.clients) no_slot

abbrev pub detach_reply_to : Option Client → Result ⊤ NoClient
detach_reply_to None = Err no_client
detach_reply_to (Some c) = Ok tt

-- the client's least free number of a request
abbrev pub request_reply_to : Option Client → Result ℕ RequestRefusal
request_reply_to None = Err NoSuchClient
request_reply_to (Some c) = ok_or (free_slot c.requests) NoRequestSlot

abbrev pub cancel_reply_of : Option EventRequest → Result ⊤ RequestRefusal
cancel_reply_of None = Err NoRequest
cancel_reply_of (Some q) = Ok tt

abbrev pub cancel_reply_to : (request : ℕ) → Option Client → Result ⊤ RequestRefusal
cancel_reply_to request None = Err NoSuchClient
cancel_reply_to request (Some c) = cancel_reply_of (slot_at c.requests request)

-- a client that begins at this place, without requests
abbrev pub joined : (name : List ℕ) (next : ℕ) → Client
joined name next = record { name = name; next = next; requests = no_requests }

-- the client's request of this number is now this one, or none
abbrev pub with_request : (number : ℕ) → Option EventRequest → Client → Client
with_request number q c = record { name = c.name; next = c.next; requests = slice_set c.requests number q }

-- the client goes on from this place
abbrev pub going_on : (next : ℕ) → Client → Client
going_on next c = record { name = c.name; next = next; requests = c.requests }

-- the client goes on from this place at least
abbrev pub pushed : (first : ℕ) → Client → Client
pushed first c = going_on (max c.next first) c

-- Sends.

-- how many of these have to go, from the front, so that with the rest an item of this size fits
abbrev pub to_drop : {X : Type 0} → (X → ℕ) → (size slot : ℕ) → List X → ℕ
to_drop slots size slot [] = 0
to_drop slots size slot (x ∷ xs) = if nat_le (sum_by slots (x ∷ xs) + slot) size then 0 else suc (to_drop slots size slot xs)

-- how many kept events have to go for this one
abbrev pub gone_of : Window → Event → ℕ
gone_of w e = to_drop slot_of_sent w.size (slot_size e) w.kept

abbrev pub or_later : Option ℕ → (place : ℕ) → Option (ℕ × ℕ) → Option (ℕ × ℕ)
or_later None place later = later
or_later (Some client) place later = Some (client, place)

-- the least of these places that is owed, with the least client that it is owed to; the first of them is given
abbrev pub owed_in : List (Option Client) → (place : ℕ) → List Sent → Option (ℕ × ℕ)
owed_in clients place [] = None
owed_in clients place (s ∷ ss) = or_later (first_slot (owes place s.event) clients) place (owed_in clients (suc place) ss)

-- the refusals, each with those that are tested after it
abbrev pub full_reply : Option (ℕ × ℕ) → (accepted : ℕ) → Result ℕ SendRefusal
full_reply None accepted = Ok accepted
full_reply (Some owed) accepted = Err (Full owed.0 owed.1)

abbrev pub room_reply : Window → Event → Result ℕ SendRefusal
room_reply w e = full_reply (owed_in w.clients w.first (take (gone_of w e) w.kept)) (accepted_of w)

abbrev pub spent_reply : Window → Event → Result ℕ SendRefusal
spent_reply w e = if nat_lt (2 ^ 62) (w.total + slot_size e) then Err (Spent w.total) else room_reply w e

abbrev pub size_reply : Window → Event → Result ℕ SendRefusal
size_reply w e = if nat_lt w.size (slot_size e) then Err (TooLarge (slot_size e) w.size) else spent_reply w e

abbrev pub id_reply : Window → Event → Result ℕ SendRefusal
id_reply w e = if is_reserved e.id then Err (ReservedId e.id) else size_reply w e

-- `stated` is the length that the header states
abbrev pub send_reply : Window → (stated : ℕ) → Event → Result ℕ SendRefusal
send_reply w stated e = if (stated == length e.body) && nat_le stated event_limit then id_reply w e else Err (BadSize stated (length e.body))

abbrev pub is_running : RunGate → (start : ℕ) → Bool
is_running Shut start = false
is_running (Running s) start = s == start
is_running (Paused s) start = false

abbrev pub send_in_run_reply : Window → (start stated : ℕ) → Event → Result ℕ SendRefusal
send_in_run_reply w start stated e = if is_running w.gate start then send_reply w stated e else Err (NotRunning w.gate)

-- the window after an accepted send
abbrev pub after_send : Window → (start : ℕ) → Event → Window
after_send w start e = record {
  size = w.size;
  first = w.first + gone_of w e;
  kept = drop (gone_of w e) w.kept ++ record { event = e; start = start } ∷ [];
  clients = change_all (pushed (w.first + gone_of w e)) w.clients;
  gate = w.gate;
  last = w.last;
  total = w.total + slot_size e;
}

-- Receives.

-- the least of these places that the client wants, with its event; the first of them is given
abbrev pub found_in : Client → (place : ℕ) → List Sent → Option (ℕ × Sent)
found_in c place [] = None
found_in c place (s ∷ ss) = if wants place s.event c then Some (place, s) else found_in c (suc place) ss

abbrev pub found_reply : RunGate → (last room : ℕ) → Option (ℕ × Sent) → Received
found_reply gate last room None = Empty gate last
found_reply gate last room (Some found) = if nat_le (length found.1.event.body) room then Got found.0 found.1.start else SmallBuf (length found.1.event.body)

abbrev pub receive_reply_to : Window → (room : ℕ) → Option Client → Received
receive_reply_to w room None = NoReader
receive_reply_to w room (Some c) = found_reply w.gate w.last room (found_in c w.first w.kept)

-- what the room of the receiver holds afterwards: the event of the place that was got, and else what it held
abbrev pub event_after : Event → Window → Received → Event
event_after held w (Got place start) = unwrap_or (option_map (λ (s : Sent). s.event) (kept_at w place)) held
event_after held w reply = held

-- Marks of runs.

abbrev pub is_paused : RunGate → (start : ℕ) → Bool
is_paused Shut start = false
is_paused (Running s) start = false
is_paused (Paused s) start = s == start

abbrev pub is_open : RunGate → (start : ℕ) → Bool
is_open Shut start = false
is_open (Running s) start = s == start
is_open (Paused s) start = s == start

abbrev pub begin_reply_at : RunGate → (last start accepted : ℕ) → Result ℕ MarkRefusal
begin_reply_at Shut last start accepted = if nat_lt last start then Ok accepted else Err (OldStart last)
begin_reply_at (Running s) last start accepted = Err (GateOpen s)
begin_reply_at (Paused s) last start accepted = Err (GateOpen s)

abbrev pub mark_reply : (right : Bool) → Window → Result ℕ MarkRefusal
mark_reply right w = if right then Ok (accepted_of w) else Err (WrongGate w.gate)

-- The calls.

-- the entry's reply is the one that the window gives
abbrev pub IsReply : Window → BufferEntry → Type 0
IsReply w (Attach name reply) = reply ≡ attach_reply w
IsReply w (Detach client reply) = reply ≡ detach_reply_to (slot_at w.clients client)
IsReply w (Request client id mask kind reply) = reply ≡ request_reply_to (slot_at w.clients client)
IsReply w (Cancel client request reply) = reply ≡ cancel_reply_to request (slot_at w.clients client)
IsReply w (Send stated e reply) = reply ≡ send_reply w stated e
IsReply w (SendInRun start stated e reply) = reply ≡ send_in_run_reply w start stated e
IsReply w (Receive client room reply) = reply ≡ receive_reply_to w room (slot_at w.clients client)
IsReply w (Begin start reply) = reply ≡ begin_reply_at w.gate w.last start (accepted_of w)
IsReply w (Pause start reply) = reply ≡ mark_reply (is_running w.gate start) w
IsReply w (Resume start reply) = reply ≡ mark_reply (is_paused w.gate start) w
IsReply w (End start reply) = reply ≡ mark_reply (is_open w.gate start) w
IsReply w (Level reply) = reply ≡ level_of w
IsReply w (Accepted reply) = reply ≡ accepted_of w

abbrev pub with_clients : Window → List (Option Client) → Window
with_clients w clients = record { size = w.size; first = w.first; kept = w.kept; clients = clients; gate = w.gate; last = w.last; total = w.total }

abbrev pub with_gate : Window → RunGate → (last : ℕ) → Window
with_gate w gate last = record { size = w.size; first = w.first; kept = w.kept; clients = w.clients; gate = gate; last = last; total = w.total }

-- the window after a call with this reply: a refusal leaves it as it was
abbrev pub window_after : Window → BufferEntry → Window
window_after w (Attach name (Ok n)) = with_clients w (slice_set w.clients n (Some (joined name (accepted_of w))))
window_after w (Detach client (Ok u)) = with_clients w (slice_set w.clients client None)
window_after w (Request client id mask kind (Ok n)) =
    with_clients w (change_slot (with_request n (Some (record { id = id; mask = mask; kind = kind; since = accepted_of w }))) w.clients client)
window_after w (Cancel client request (Ok u)) = with_clients w (change_slot (with_request request None) w.clients client)
window_after w (Send stated e (Ok n)) = after_send w 0 e
window_after w (SendInRun start stated e (Ok n)) = after_send w start e
window_after w (Receive client room (Got place start)) = with_clients w (change_slot (going_on (place + 1)) w.clients client)
window_after w (Receive client room (Empty gate last)) = with_clients w (change_slot (going_on (accepted_of w)) w.clients client)
window_after w (Begin start (Ok n)) = with_gate w (Running start) start
window_after w (Pause start (Ok n)) = with_gate w (Paused start) w.last
window_after w (Resume start (Ok n)) = with_gate w (Running start) w.last
window_after w (End start (Ok n)) = with_gate w Shut w.last
window_after w entry = w
