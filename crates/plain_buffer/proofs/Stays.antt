-- The window of a plain buffer stays one where its fields are changed as a call changes its window.
use Rattle.std.proofs.Common.{◌≡◌, ℕ, ◌+◌, List, [], length, ap, sym, subst, ◌∙◌, arith, le-leb, Bool, true, if◌then◌else◌}
use Rattle.std.specs.Prelude.{Option, Some, None, Result, Ok, Err, IfOk, OnErr, slice_set, nat_le}
use Rattle.std.specs.Option.{option_map, ok_or}
use Rattle.daq_types.specs.declared.runs.Kind.{Kind}
use Rattle.buffer_core.specs.declared.gate.RunGate.{RunGate}
use Rattle.buffer_core.specs.declared.gate.RunGate.TheVariants.{Shut}
use Rattle.buffer_core.specs.declared.client.Client.{Client}
use Rattle.buffer_core.specs.declared.client.Request.{Request as EventRequest}
use Rattle.buffer_core.specs.declared.replies.NoSlot.{NoSlot}
use Rattle.buffer_core.specs.declared.replies.RequestRefusal.TheVariants.{NoRequestSlot}
use Rattle.buffer_core.specs.declared.replies.Received.TheVariants.{Got, Empty, SmallBuf}
use Rattle.buffer_core.specs.declared.entry.BufferEntry.TheVariants.{Attach, Detach, Request, Cancel, Receive}
use Rattle.buffer_core.specs.Slots.{slot_at, free_slot, change_slot}
use Rattle.buffer_core.specs.Window.{Window, Sent, IsWindow, no_clients, accepted_of}
use Rattle.buffer_core.specs.Calls.{with_clients, with_gate, joined, with_request, going_on, no_slot, detach_reply_to, request_reply_to, cancel_reply_to, cancel_reply_of, found_in, found_reply, receive_reply_to}
use Rattle.buffer_core.proofs.WindowKept.{window_opens, window_stays}
use Rattle.plain_buffer.specs.declared.rows.Row.{Row}
use Rattle.plain_buffer.specs.declared.plain.PlainBuffer.TheInside.{Inside}
use Rattle.plain_buffer.specs.Rows.{kept_of}
use Rattle.plain_buffer.specs.Plain.{plain_window, IsPlain}

-- a new buffer
pub window_new : (size : ℕ) (rows : List Row) (bytes : List ℕ) (clients : List (Option Client)) → rows ≡ [] → clients ≡ no_clients
    → IsWindow (record { size = size; first = 0; kept = kept_of rows bytes; clients = clients; gate = Shut; last = 0; total = 0 })
window_new size rows bytes clients no_rows free =
    subst (λ (rs : List Row). IsWindow (record { size = size; first = 0; kept = kept_of rs bytes; clients = clients; gate = Shut; last = 0; total = 0 })) (sym no_rows)
    (subst (λ (cs : List (Option Client)). IsWindow (record { size = size; first = 0; kept = []; clients = cs; gate = Shut; last = 0; total = 0 })) (sym free) (window_opens size))

-- other clients, or another gate
pub plain_clients : (b : Inside) (clients : List (Option Client)) → IsPlain b → IsWindow (with_clients (plain_window b) clients) → IsPlain (record b { clients = clients })
plain_clients b clients is window =
    record {
      kept = window;
      whole = is.whole;
      counted = is.counted;
      small = is.small;
      fits = is.fits;
      bounded = is.bounded;
      paid = is.paid;
      spent = is.spent;
      rows_room = is.rows_room;
      bytes_room = is.bytes_room;
    }

pub plain_gate : (b : Inside) (gate : RunGate) (last : ℕ) → IsPlain b → IsWindow (with_gate (plain_window b) gate last) → IsPlain (record b { gate = gate; last = last })
plain_gate b gate last is window =
    record {
      kept = window;
      whole = is.whole;
      counted = is.counted;
      small = is.small;
      fits = is.fits;
      bounded = is.bounded;
      paid = is.paid;
      spent = is.spent;
      rows_room = is.rows_room;
      bytes_room = is.bytes_room;
    }

-- The clients after each call.

pub window_attach : (w : Window) (name : List ℕ) (next : ℕ) (reply : Result ℕ NoSlot) (clients : List (Option Client)) → IsWindow w → next ≡ accepted_of w
    → reply ≡ ok_or (free_slot w.clients) no_slot → IfOk reply (λ n. clients ≡ slice_set w.clients n (Some (joined name next))) → OnErr reply (clients ≡ w.clients)
    → IsWindow (with_clients w clients)
window_attach w name next (Ok n) clients is behind reply ok err =
    subst (λ (cs : List (Option Client)). IsWindow (with_clients w cs)) (ap (λ (k : ℕ). slice_set w.clients n (Some (joined name k))) (sym behind) ∙ sym ok)
    (window_stays w (Attach name (Ok n)) is reply)
window_attach w name next (Err r) clients is behind reply ok err = subst (λ (cs : List (Option Client)). IsWindow (with_clients w cs)) (sym err) is

pub window_detach : (w : Window) (client : ℕ) (c : Client) (clients : List (Option Client)) → IsWindow w → slot_at w.clients client ≡ Some c
    → clients ≡ slice_set w.clients client None → IsWindow (with_clients w clients)
window_detach w client c clients is lives after =
    subst (λ (cs : List (Option Client)). IsWindow (with_clients w cs)) (sym after) (window_stays w (Detach client (Ok tt)) is (sym (ap detach_reply_to lives)))

changed : (f : Client → Client) (clients : List (Option Client)) (client : ℕ) (c : Client) → slot_at clients client ≡ Some c → change_slot f clients client ≡ slice_set clients client (Some (f c))
changed f clients client c lives = ap (λ (o : Option Client). slice_set clients client (option_map f o)) lives

pub window_request : (w : Window) (client number id mask since : ℕ) (kind : Kind) (c : Client) (clients : List (Option Client)) → IsWindow w → slot_at w.clients client ≡ Some c
    → free_slot c.requests ≡ Some number → since ≡ accepted_of w
    → clients ≡ slice_set w.clients client (Some (with_request number (Some (record { id = id; mask = mask; kind = kind; since = since })) c)) → IsWindow (with_clients w clients)
window_request w client number id mask since kind c clients is lives free behind after =
    let f : ℕ → Client → Client = λ n. with_request number (Some (record { id = id; mask = mask; kind = kind; since = n })) in
    let reply : Ok number ≡ request_reply_to (slot_at w.clients client) = sym (ap request_reply_to lives ∙ ap (λ (o : Option ℕ). ok_or o NoRequestSlot) free) in
    subst (λ (cs : List (Option Client)). IsWindow (with_clients w cs)) (changed (f (accepted_of w)) w.clients client c lives ∙ (ap (λ (n : ℕ). slice_set w.clients client (Some (f n c))) (sym behind) ∙ sym after))
    (window_stays w (Request client id mask kind (Ok number)) is reply)

pub window_cancel : (w : Window) (client request : ℕ) (c : Client) (q : EventRequest) (clients : List (Option Client)) → IsWindow w → slot_at w.clients client ≡ Some c
    → slot_at c.requests request ≡ Some q
    → clients ≡ slice_set w.clients client (Some (with_request request None c)) → IsWindow (with_clients w clients)
window_cancel w client request c q clients is lives asks after =
    let reply : Ok tt ≡ cancel_reply_to request (slot_at w.clients client) = sym (ap (cancel_reply_to request) lives ∙ ap cancel_reply_of asks) in
    subst (λ (cs : List (Option Client)). IsWindow (with_clients w cs)) (changed (with_request request None) w.clients client c lives ∙ sym after)
    (window_stays w (Cancel client request (Ok tt)) is reply)

pub window_got : (w : Window) (client place : ℕ) (s : Sent) (c : Client) (clients : List (Option Client)) → IsWindow w → slot_at w.clients client ≡ Some c
    → found_in c w.first w.kept ≡ Some (place, s)
    → clients ≡ slice_set w.clients client (Some (going_on (place + 1) c)) → IsWindow (with_clients w clients)
window_got w client place s c clients is lives found after =
    let room : ℕ = length s.event.body in
    let enough : nat_le room room ≡ true = le-leb room room (omega arith) in
    let reply : Got place s.start ≡ receive_reply_to w room (slot_at w.clients client) =
    sym (ap (receive_reply_to w room) lives ∙ (ap (found_reply w.gate w.last room) found ∙ ap (λ (b : Bool). if b then Got place s.start else SmallBuf room) enough)) in
    subst (λ (cs : List (Option Client)). IsWindow (with_clients w cs)) (changed (going_on (place + 1)) w.clients client c lives ∙ sym after)
    (window_stays w (Receive client room (Got place s.start)) is reply)

pub window_drained : (w : Window) (client next : ℕ) (c : Client) (clients : List (Option Client)) → IsWindow w → slot_at w.clients client ≡ Some c
    → found_in c w.first w.kept ≡ None → next ≡ accepted_of w
    → clients ≡ slice_set w.clients client (Some (going_on next c)) → IsWindow (with_clients w clients)
window_drained w client next c clients is lives none behind after =
    let reply : Empty w.gate w.last ≡ receive_reply_to w 0 (slot_at w.clients client) = sym (ap (receive_reply_to w 0) lives ∙ ap (found_reply w.gate w.last 0) none) in
    subst (λ (cs : List (Option Client)). IsWindow (with_clients w cs))
    (changed (going_on (accepted_of w)) w.clients client c lives ∙ (ap (λ (n : ℕ). slice_set w.clients client (Some (going_on n c))) (sym behind) ∙ sym after))
    (window_stays w (Receive client 0 (Empty w.gate w.last)) is reply)
