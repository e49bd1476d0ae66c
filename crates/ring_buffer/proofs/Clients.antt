-- Clients and their requests, over the pointers of a ring buffer.
use Rattle.std.specs.Prelude.{◌≡◌, ℕ, List, Option, Some, None, Result, Ok, Err, ⊤, IfOk, OnOk, OnErr, slice_set, refl}
use Rattle.std.specs.Option.{option_map, ok_or}
use Rattle.std.proofs.Common.{ap, sym, ◌∙◌, subst}
use Rattle.daq_types.specs.declared.runs.Kind.{Kind}
use Rattle.buffer_core.specs.declared.client.Client.{Client}
use Rattle.buffer_core.specs.declared.client.Request.{Request as EventRequest}
use Rattle.buffer_core.specs.declared.replies.NoSlot.{NoSlot}
use Rattle.buffer_core.specs.declared.replies.NoClient.{NoClient}
use Rattle.buffer_core.specs.declared.replies.RequestRefusal.{RequestRefusal}
use Rattle.buffer_core.specs.declared.entry.BufferEntry.TheVariants.{Attach, Detach, Request, Cancel}
use Rattle.buffer_core.specs.Slots.{slot_at, free_slot, change_slot}
use Rattle.buffer_core.specs.Window.{Window, IsWindow}
use Rattle.buffer_core.proofs.WindowKept.{window_stays}
use Rattle.buffer_core.specs.Calls.{no_slot, joined, with_request, attach_reply, detach_reply_to, request_reply_to, cancel_reply_to, window_after, with_clients}
use Rattle.ring_buffer.specs.declared.pointer.Pointer.{Pointer}
use Rattle.ring_buffer.specs.Pointers.{clients_of, changed, IsAtOffset}
use Rattle.ring_buffer.proofs.PointerLaws.{free_client, clients_set, clients_change}
use Rattle.ring_buffer.specs.declared.ring_buffer.RingBuffer.TheInside.{Inside}
use Rattle.ring_buffer.specs.RingViews.{window_of, IsRingBuffer}
use Rattle.ring_buffer.proofs.Sending.{accepted_is}
use Rattle.ring_buffer.proofs.GivenEvents.{with_pointers, ring_clients, placed_set, at_end}

-- nobody changed
pub same_ring : (b : Inside) (slots : List (Option Pointer)) → IsRingBuffer b → slots ≡ b.clients → IsRingBuffer (with_pointers b slots)
same_ring b slots is same = subst (λ (s : List (Option Pointer)). IsRingBuffer (with_pointers b s)) (sym same) is

pub same_window : (b : Inside) (w : Window) (slots : List (Option Pointer)) → window_of b ≡ w → slots ≡ b.clients → window_of (with_pointers b slots) ≡ w
same_window b w slots view same = ap (λ (s : List (Option Pointer)). window_of (with_pointers b s)) same ∙ view

-- a client is attached
new_is : (p q : Pointer) → Some p ≡ Some q → p ≡ q
new_is p q e = cc

pub attached_reply : (b : Inside) (w : Window) (r : Result ℕ NoSlot) → window_of b ≡ w → r ≡ ok_or (free_slot b.clients) no_slot → r ≡ attach_reply w
attached_reply b w r view reply = reply ∙ (ap (λ (o : Option ℕ). ok_or o no_slot) (sym (free_client b.clients)) ∙ ap attach_reply view)

attached_window : (b : Inside) (slots : List (Option Pointer)) (n : ℕ) (name : List ℕ) → IsRingBuffer b → slots ≡ slice_set b.clients n (Some (record { client = joined name b.count; off = b.total }))
    → window_of (with_pointers b slots) ≡ window_after (window_of b) (Attach name (Ok n))
attached_window b slots n name is are =
    ap (with_clients (window_of b)) (ap clients_of are ∙ (clients_set b.clients n (Some (record { client = joined name b.count; off = b.total })) ∙ ap (λ (k : ℕ). slice_set (clients_of b.clients) n (Some (joined name k))) (sym (accepted_is b is))))

pub attached_ring : (b : Inside) (slots : List (Option Pointer)) (n : ℕ) (name : List ℕ) → IsRingBuffer b → slots ≡ slice_set b.clients n (Some (record { client = joined name b.count; off = b.total }))
    → Ok n ≡ ok_or (free_slot b.clients) no_slot → IsRingBuffer (with_pointers b slots)
attached_ring b slots n name is are reply =
    ring_clients b slots is (subst IsWindow (sym (attached_window b slots n name is are)) (window_stays (window_of b) (Attach name (Ok n)) is.window (attached_reply b (window_of b) (Ok n) refl reply)))
    (λ m p e.
    placed_set (λ (q : Pointer). IsAtOffset (window_of b) q) b.clients n (Some (record { client = joined name b.count; off = b.total })) is.placed
    (λ q e. subst (λ (x : Pointer). IsAtOffset (window_of b) x) (new_is (record { client = joined name b.count; off = b.total }) q e) (at_end b is))
    m p (subst (λ (xs : List (Option Pointer)). slot_at xs m ≡ Some p) are e))

pub attached_after : (b : Inside) (w : Window) (slots : List (Option Pointer)) (n : ℕ) (name : List ℕ) → window_of b ≡ w → IsRingBuffer b → slots ≡ slice_set b.clients n (Some (record { client = joined name b.count; off = b.total }))
    → window_of (with_pointers b slots) ≡ window_after w (Attach name (Ok n))
attached_after b w slots n name view is are = attached_window b slots n name is are ∙ ap (λ (x : Window). window_after x (Attach name (Ok n))) view

-- or there is no number for it
pub attach_ring : (b : Inside) (slots : List (Option Pointer)) (name : List ℕ) (r : Result ℕ NoSlot) → IsRingBuffer b → r ≡ ok_or (free_slot b.clients) no_slot
    → IfOk r (λ n. slots ≡ slice_set b.clients n (Some (record { client = joined name b.count; off = b.total }))) → OnErr r (slots ≡ b.clients) → IsRingBuffer (with_pointers b slots)
attach_ring b slots name (Ok n) is reply ok err = attached_ring b slots n name is ok reply
attach_ring b slots name (Err e) is reply ok err = same_ring b slots is err

pub attach_after : (b : Inside) (w : Window) (slots : List (Option Pointer)) (name : List ℕ) (r : Result ℕ NoSlot) → window_of b ≡ w → IsRingBuffer b
    → IfOk r (λ n. slots ≡ slice_set b.clients n (Some (record { client = joined name b.count; off = b.total }))) → OnErr r (slots ≡ b.clients) → window_of (with_pointers b slots) ≡ window_after w (Attach name r)
attach_after b w slots name (Ok n) view is ok err = attached_after b w slots n name view is ok
attach_after b w slots name (Err e) view is ok err = same_window b w slots view err

-- a client is detached
detached_window : (b : Inside) (slots : List (Option Pointer)) (client : ℕ) → slots ≡ slice_set b.clients client None → window_of (with_pointers b slots) ≡ with_clients (window_of b) (slice_set (clients_of b.clients) client None)
detached_window b slots client are = ap (with_clients (window_of b)) (ap clients_of are ∙ clients_set b.clients client None)

detached_ring : (b : Inside) (slots : List (Option Pointer)) (client : ℕ) → IsRingBuffer b → slots ≡ slice_set b.clients client None → Ok tt ≡ detach_reply_to (slot_at (clients_of b.clients) client) → IsRingBuffer (with_pointers b slots)
detached_ring b slots client is are reply =
    ring_clients b slots is (subst IsWindow (sym (detached_window b slots client are)) (window_stays (window_of b) (Detach client (Ok tt)) is.window reply))
    (λ m p e. placed_set (λ (q : Pointer). IsAtOffset (window_of b) q) b.clients client None is.placed (λ q e. absurd (cc)) m p (subst (λ (xs : List (Option Pointer)). slot_at xs m ≡ Some p) are e))

detached_after : (b : Inside) (w : Window) (slots : List (Option Pointer)) (client : ℕ) → window_of b ≡ w → slots ≡ slice_set b.clients client None → window_of (with_pointers b slots) ≡ with_clients w (slice_set w.clients client None)
detached_after b w slots client view are = detached_window b slots client are ∙ ap (λ (x : Window). with_clients x (slice_set x.clients client None)) view

-- or it is not there
pub detach_ring : (b : Inside) (slots : List (Option Pointer)) (client : ℕ) (r : Result ⊤ NoClient) → IsRingBuffer b → r ≡ detach_reply_to (slot_at (clients_of b.clients) client)
    → OnOk r (slots ≡ slice_set b.clients client None) → OnErr r (slots ≡ b.clients) → IsRingBuffer (with_pointers b slots)
detach_ring b slots client (Ok u) is reply ok err = detached_ring b slots client is ok reply
detach_ring b slots client (Err e) is reply ok err = same_ring b slots is err

pub detach_after : (b : Inside) (w : Window) (slots : List (Option Pointer)) (client : ℕ) (r : Result ⊤ NoClient) → window_of b ≡ w
    → OnOk r (slots ≡ slice_set b.clients client None) → OnErr r (slots ≡ b.clients) → window_of (with_pointers b slots) ≡ window_after w (Detach client r)
detach_after b w slots client (Ok u) view ok err = detached_after b w slots client view ok
detach_after b w slots client (Err e) view ok err = same_window b w slots view err

-- requests are made and cancelled
changed_window : (b : Inside) (slots : List (Option Pointer)) (client : ℕ) (f : Client → Client) → slots ≡ change_slot (changed f) b.clients client → window_of (with_pointers b slots) ≡ with_clients (window_of b) (change_slot f (clients_of b.clients) client)
changed_window b slots client f are = ap (with_clients (window_of b)) (ap clients_of are ∙ clients_change (changed f) f (λ p. refl) b.clients client)

changed_placed : (b : Inside) (f : Client → Client) (o : Option Pointer) → ((c : Client) → (f c).next ≡ c.next) → ((p : Pointer) → o ≡ Some p → IsAtOffset (window_of b) p) → (q : Pointer) → option_map (changed f) o ≡ Some q → IsAtOffset (window_of b) q
changed_placed b f None keeps all q e = absurd (cc)
changed_placed b f (Some p) keeps all q e =
    subst (λ (x : Pointer). IsAtOffset (window_of b) x) (let same : changed f p ≡ q = cc in same)
    (subst (λ (n : ℕ). IsAtOffset (window_of b) (record { client = record { name = (f p.client).name; next = n; requests = (f p.client).requests }; off = p.off })) (sym (keeps p.client)) (all p refl))

changed_ring : (b : Inside) (slots : List (Option Pointer)) (client : ℕ) (f : Client → Client) → IsRingBuffer b → slots ≡ change_slot (changed f) b.clients client → ((c : Client) → (f c).next ≡ c.next)
    → IsWindow (with_clients (window_of b) (change_slot f (clients_of b.clients) client)) → IsRingBuffer (with_pointers b slots)
changed_ring b slots client f is are keeps window =
    ring_clients b slots is (subst IsWindow (sym (changed_window b slots client f are)) window)
    (λ m p e.
    placed_set (λ (q : Pointer). IsAtOffset (window_of b) q) b.clients client (option_map (changed f) (slot_at b.clients client)) is.placed
    (changed_placed b f (slot_at b.clients client) keeps (is.placed client))
    m p (subst (λ (xs : List (Option Pointer)). slot_at xs m ≡ Some p) are e))

abbrev pub asked : (id mask : ℕ) → Kind → (since : ℕ) → Option EventRequest
asked id mask kind since = Some (record { id = id; mask = mask; kind = kind; since = since })

requested_ring : (b : Inside) (slots : List (Option Pointer)) (client id mask : ℕ) (kind : Kind) (n : ℕ) → IsRingBuffer b → slots ≡ change_slot (changed (with_request n (asked id mask kind b.count))) b.clients client
    → Ok n ≡ request_reply_to (slot_at (clients_of b.clients) client) → IsRingBuffer (with_pointers b slots)
requested_ring b slots client id mask kind n is are reply =
    changed_ring b slots client (with_request n (asked id mask kind b.count)) is are (λ c. refl)
    (subst (λ (k : ℕ). IsWindow (with_clients (window_of b) (change_slot (with_request n (asked id mask kind k)) (clients_of b.clients) client))) (accepted_is b is)
    (window_stays (window_of b) (Request client id mask kind (Ok n)) is.window reply))

requested_after : (b : Inside) (w : Window) (slots : List (Option Pointer)) (client id mask : ℕ) (kind : Kind) (n : ℕ) → window_of b ≡ w → IsRingBuffer b → slots ≡ change_slot (changed (with_request n (asked id mask kind b.count))) b.clients client
    → window_of (with_pointers b slots) ≡ window_after w (Request client id mask kind (Ok n))
requested_after b w slots client id mask kind n view is are =
    changed_window b slots client (with_request n (asked id mask kind b.count)) are
    ∙ (ap (λ (k : ℕ). with_clients (window_of b) (change_slot (with_request n (asked id mask kind k)) (clients_of b.clients) client)) (sym (accepted_is b is))
    ∙ ap (λ (x : Window). window_after x (Request client id mask kind (Ok n))) view)

cancelled_ring : (b : Inside) (slots : List (Option Pointer)) (client request : ℕ) → IsRingBuffer b → slots ≡ change_slot (changed (with_request request None)) b.clients client
    → Ok tt ≡ cancel_reply_to request (slot_at (clients_of b.clients) client) → IsRingBuffer (with_pointers b slots)
cancelled_ring b slots client request is are reply =
    changed_ring b slots client (with_request request None) is are (λ c. refl) (window_stays (window_of b) (Cancel client request (Ok tt)) is.window reply)

cancelled_after : (b : Inside) (w : Window) (slots : List (Option Pointer)) (client request : ℕ) → window_of b ≡ w → slots ≡ change_slot (changed (with_request request None)) b.clients client
    → window_of (with_pointers b slots) ≡ with_clients w (change_slot (with_request request None) w.clients client)
cancelled_after b w slots client request view are =
    changed_window b slots client (with_request request None) are ∙ ap (λ (x : Window). with_clients x (change_slot (with_request request None) x.clients client)) view

-- or they are not
pub request_ring : (b : Inside) (slots : List (Option Pointer)) (client id mask : ℕ) (kind : Kind) (r : Result ℕ RequestRefusal) → IsRingBuffer b → r ≡ request_reply_to (slot_at (clients_of b.clients) client)
    → IfOk r (λ n. slots ≡ change_slot (changed (with_request n (asked id mask kind b.count))) b.clients client) → OnErr r (slots ≡ b.clients) → IsRingBuffer (with_pointers b slots)
request_ring b slots client id mask kind (Ok n) is reply ok err = requested_ring b slots client id mask kind n is ok reply
request_ring b slots client id mask kind (Err e) is reply ok err = same_ring b slots is err

pub request_after : (b : Inside) (w : Window) (slots : List (Option Pointer)) (client id mask : ℕ) (kind : Kind) (r : Result ℕ RequestRefusal) → window_of b ≡ w → IsRingBuffer b
    → IfOk r (λ n. slots ≡ change_slot (changed (with_request n (asked id mask kind b.count))) b.clients client) → OnErr r (slots ≡ b.clients)
    → window_of (with_pointers b slots) ≡ window_after w (Request client id mask kind r)
request_after b w slots client id mask kind (Ok n) view is ok err = requested_after b w slots client id mask kind n view is ok
request_after b w slots client id mask kind (Err e) view is ok err = same_window b w slots view err

pub cancel_ring : (b : Inside) (slots : List (Option Pointer)) (client request : ℕ) (r : Result ⊤ RequestRefusal) → IsRingBuffer b → r ≡ cancel_reply_to request (slot_at (clients_of b.clients) client)
    → OnOk r (slots ≡ change_slot (changed (with_request request None)) b.clients client) → OnErr r (slots ≡ b.clients) → IsRingBuffer (with_pointers b slots)
cancel_ring b slots client request (Ok u) is reply ok err = cancelled_ring b slots client request is ok reply
cancel_ring b slots client request (Err e) is reply ok err = same_ring b slots is err

pub cancel_after : (b : Inside) (w : Window) (slots : List (Option Pointer)) (client request : ℕ) (r : Result ⊤ RequestRefusal) → window_of b ≡ w
    → OnOk r (slots ≡ change_slot (changed (with_request request None)) b.clients client) → OnErr r (slots ≡ b.clients) → window_of (with_pointers b slots) ≡ window_after w (Cancel client request r)
cancel_after b w slots client request (Ok u) view ok err = cancelled_after b w slots client request view ok
cancel_after b w slots client request (Err e) view ok err = same_window b w slots view err
