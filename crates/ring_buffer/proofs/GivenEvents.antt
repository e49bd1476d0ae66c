-- What a client is given.
use Rattle.std.specs.Prelude.{◌≡◌, ℕ, zero, suc, ◌+◌, ◌-◌, ◌<◌, ◌≤◌, ◌==◌, Bool, true, false, ◌&&◌, if◌then◌else◌, nat_le, List, [], ◌∷◌, length, take, drop, sum_by, slice_set, Option, Some, None, Result, OnOk, ⊤, refl}
use Rattle.std.specs.Option.{option_map}
use Rattle.std.proofs.Common.{ap, sym, ◌∙◌, subst, arith, length-set}
use Rattle.std.proofs.lemmas.Bool.{lt-leb, eqb-true, eqb-false, le-leb}
use Rattle.std.proofs.lemmas.List.{drop-drop, drop_all, length-drop}
use Rattle.std.proofs.lemmas.List.Sums.{sum_by-cons, sum_by-take-drop}
use Rattle.event.specs.declared.head.Header.{Header}
use Rattle.event.specs.Headers.{event_of, fields_of}
use Rattle.ring_buffer.specs.Rings.{CountedBytes, bytes_at}
use Rattle.buffer_core.specs.declared.gate.RunGate.{RunGate}
use Rattle.buffer_core.specs.declared.client.Client.{Client}
use Rattle.buffer_core.specs.declared.replies.NoClient.{NoClient}
use Rattle.buffer_core.specs.declared.replies.Received.TheVariants.{Got, Empty, SmallBuf}
use Rattle.buffer_core.specs.Slots.{slot_at, some_slot, change_slot}
use Rattle.buffer_core.proofs.SlotLaws.{split, slot_set_same, slot_set_other, slot_within}
use Rattle.buffer_core.specs.Window.{Sent, Window, slot_of_sent, level_of, covers, IsWindow}
use Rattle.buffer_core.specs.Calls.{detach_reply_to, found_in, found_reply, receive_reply_to, going_on, with_clients}
use Rattle.ring_buffer.specs.declared.pointer.Pointer.{Pointer}
use Rattle.ring_buffer.specs.Pointers.{clients_of, moved, position_of, IsAtOffset}
use Rattle.ring_buffer.proofs.PointerLaws.{clients_change, client_at}
use Rattle.ring_buffer.specs.declared.ring_buffer.RingBuffer.TheInside.{Inside}
use Rattle.ring_buffer.specs.declared.walk.Position.{Position}
use Rattle.ring_buffer.specs.declared.walk.Found.{Found}
use Rattle.ring_buffer.specs.RingHolds.{HoldsEvents}
use Rattle.ring_buffer.specs.Stored.{ring_event_at, ring_events_at, FitsSlot, AllFit}
use Rattle.ring_buffer.specs.RingViews.{window_of, IsRingBuffer}
use Rattle.ring_buffer.specs.Walks.{ring_between, IsWalk, IsFoundFor, FindsNothing}
use Rattle.ring_buffer.proofs.Walking.{at, IsNext, next_is}
use Rattle.ring_buffer.proofs.Sending.{events_read, length-events_at, accepted_is, holds_drop, fit_drop}

-- Other clients, another gate or other counts, and the same events.

abbrev pub with_pointers : Inside → List (Option Pointer) → Inside
with_pointers b slots = record { ring = b.ring; first = b.first; off = b.off; count = b.count; total = b.total; clients = slots; gate = b.gate; last = b.last }

abbrev pub with_run : Inside → RunGate → (last : ℕ) → Inside
with_run b gate last = record { ring = b.ring; first = b.first; off = b.off; count = b.count; total = b.total; clients = b.clients; gate = gate; last = last }

abbrev pub with_ring : Inside → CountedBytes → Inside
with_ring b ring = record { ring = ring; first = b.first; off = b.off; count = b.count; total = b.total; clients = b.clients; gate = b.gate; last = b.last }

-- a read changes what the ring counts alone
pub window_read : (b : Inside) (ring : CountedBytes) → ring.bytes ≡ b.ring.bytes → window_of (with_ring b ring) ≡ window_of b
window_read b ring same = ap (λ (bytes : List ℕ). window_of (with_ring b (record { bytes = bytes; reads = ring.reads; bytes_read = ring.bytes_read }))) same

counts_matter_not : (b : Inside) (reads bytes_read : ℕ) → IsRingBuffer b → IsRingBuffer (with_ring b (record { bytes = b.ring.bytes; reads = reads; bytes_read = bytes_read }))
counts_matter_not b reads bytes_read is =
    record {
      window = is.window;
      holds = record { size = is.holds.size; events = is.holds.events };
      fit = is.fit;
      least = is.least;
      order = is.order;
      level = is.level;
      placed = is.placed;
    }

pub ring_read : (b : Inside) (ring : CountedBytes) → ring.bytes ≡ b.ring.bytes → IsRingBuffer b → IsRingBuffer (with_ring b ring)
ring_read b ring same is =
    subst (λ (bytes : List ℕ). IsRingBuffer (with_ring b (record { bytes = bytes; reads = ring.reads; bytes_read = ring.bytes_read }))) (sym same)
    (counts_matter_not b ring.reads ring.bytes_read is)

pub ring_clients : (b : Inside) (slots : List (Option Pointer)) → IsRingBuffer b → IsWindow (window_of (with_pointers b slots)) → ((n : ℕ) (p : Pointer) → slot_at slots n ≡ Some p → IsAtOffset (window_of b) p) → IsRingBuffer (with_pointers b slots)
ring_clients b slots is window placed =
    record {
      window = window;
      holds = record { size = is.holds.size; events = is.holds.events };
      fit = is.fit;
      least = is.least;
      order = is.order;
      level = is.level;
      placed = placed;
    }

pub ring_gate : (b : Inside) (gate : RunGate) (last : ℕ) → IsRingBuffer b → IsWindow (window_of (with_run b gate last)) → IsRingBuffer (with_run b gate last)
ring_gate b gate last is window =
    record {
      window = window;
      holds = record { size = is.holds.size; events = is.holds.events };
      fit = is.fit;
      least = is.least;
      order = is.order;
      level = is.level;
      placed = is.placed;
    }

-- one place gets another client
pub placed_set : (P : Pointer → Type 0) (xs : List (Option Pointer)) (n : ℕ) (o : Option Pointer) → ((m : ℕ) (p : Pointer) → slot_at xs m ≡ Some p → P p) → ((p : Pointer) → o ≡ Some p → P p)
    → (m : ℕ) (p : Pointer) → slot_at (slice_set xs n o) m ≡ Some p → P p
placed_set P xs n o all here m p e =
    split (m == n) (λ b. (m == n) ≡ b → P p)
    (λ h same.
    let is_n : m ≡ n = eqb-true m n same in
    let within : n < length xs = omega (arith, is_n, slot_within (slice_set xs n o) m p e, length-set xs n o) in
    here p (sym (slot_set_same xs n o within) ∙ subst (λ (k : ℕ). slot_at (slice_set xs n o) k ≡ Some p) is_n e))
    (λ h other. all m p (sym (slot_set_other xs n m o (eqb-false m n other)) ∙ e))
    refl

-- a client that begins at the end
pub at_end : (b : Inside) → IsRingBuffer b → b.total + sum_by slot_of_sent (drop (b.count - b.first) (window_of b).kept) ≡ b.total
at_end b is =
    let none : sum_by slot_of_sent (drop (b.count - b.first) (window_of b).kept) ≡ 0 =
    ap (λ (ss : List Sent). sum_by slot_of_sent ss) (drop_all (b.count - b.first) (window_of b).kept (omega (arith, length-events_at b.ring.bytes b.off (b.count - b.first)))) in
    omega (arith, none)

-- The walk of a client.

pub record IsWalkOf (b : Inside) (p : Pointer) : Type 0 where
  pub walk : IsWalk b.ring.bytes (at p.off p.client.next) (at b.total b.count)
  pub rest : ring_between b.ring.bytes (at p.off p.client.next) (at b.total b.count) ≡ drop (p.client.next - b.first) (window_of b).kept
  pub from : b.first ≤ p.client.next
  pub to : p.client.next ≤ b.count

pub walk_of : (b : Inside) (client : ℕ) (p : Pointer) → IsRingBuffer b → slot_at b.clients client ≡ Some p → IsWalkOf b p
walk_of b client p is lives =
    let kept : List Sent = (window_of b).kept in
    let k : ℕ = p.client.next - b.first in
    let rest : List Sent = drop (p.client.next - b.first) (window_of b).kept in
    let bounds = is.window.clients client p.client (client_at b.clients client ∙ ap (option_map (λ (q : Pointer). q.client)) lives) in
    let from : b.first ≤ p.client.next = bounds.from in
    let to : p.client.next ≤ b.count = omega (arith, bounds.to, accepted_is b is) in
    let first_off : b.total - level_of (window_of b) ≡ b.off = omega (arith, is.level) in
    let old : HoldsEvents b.ring.bytes b.off kept = subst (λ (o : ℕ). HoldsEvents b.ring.bytes o (window_of b).kept) first_off is.holds.events in
    let rest_off : b.off + sum_by slot_of_sent (take k kept) ≡ p.off = omega (arith, sum_by-take-drop slot_of_sent kept k, is.level, is.placed client p lives) in
    let holds : HoldsEvents b.ring.bytes p.off rest = subst (λ (o : ℕ). HoldsEvents b.ring.bytes o (drop k kept)) rest_off (holds_drop b.ring.bytes k b.off kept old) in
    let fits : AllFit rest = fit_drop k kept is.fit in
    let count : b.count - p.client.next ≡ length rest = omega (arith, length-drop k kept, length-events_at b.ring.bytes b.off (b.count - b.first), from, to) in
    let rest_is : ring_between b.ring.bytes (at p.off p.client.next) (at b.total b.count) ≡ rest = ap (λ (n : ℕ). ring_events_at b.ring.bytes p.off n) count ∙ events_read b.ring.bytes p.off rest holds fits in
    record {
      walk = record {
        order = to;
        holds = subst (λ (ss : List Sent). HoldsEvents b.ring.bytes p.off ss) (sym rest_is) holds;
        fit = subst AllFit (sym rest_is) fits;
        level = ap (λ (ss : List Sent). p.off + sum_by slot_of_sent ss) rest_is ∙ is.placed client p lives;
      };
      rest = rest_is;
      from = from;
      to = to;
    }

-- nothing below its next place is wanted
found_skip : (c : Client) (k first : ℕ) (ss : List Sent) → first + k ≡ c.next → found_in c first ss ≡ found_in c c.next (drop k ss)
found_skip c zero first ss here = ap (λ (n : ℕ). found_in c n ss) (let same : first ≡ c.next = omega (arith, here) in same)
found_skip c (suc k) first [] here = refl
found_skip c (suc k) first (s ∷ ss) here =
    let behind : nat_le c.next first ≡ false = lt-leb c.next first (omega (arith, here)) in
    ap (λ (b : Bool). if b && some_slot (covers first s.event) c.requests then Some (first, s) else found_in c (suc first) ss) behind
    ∙ found_skip c k (suc first) ss (omega (arith, here))

pub found_walk : (b : Inside) (p : Pointer) → IsWalkOf b p → found_in p.client b.first (window_of b).kept ≡ found_in p.client p.client.next (ring_between b.ring.bytes (at p.off p.client.next) (at b.total b.count))
found_walk b p walk =
    found_skip p.client (p.client.next - b.first) b.first (window_of b).kept (omega (arith, walk.from)) ∙ ap (λ (ss : List Sent). found_in p.client p.client.next ss) (sym walk.rest)

pub client_is : (b : Inside) (client : ℕ) (p : Pointer) → slot_at b.clients client ≡ Some p → slot_at (clients_of b.clients) client ≡ Some p.client
client_is b client p lives = client_at b.clients client ∙ ap (option_map (λ (q : Pointer). q.client)) lives

-- where a client's pointer was found
pub pointer_from : (o : Option Pointer) (position : ℕ × ℕ) → Some position ≡ option_map position_of o → (p : Pointer) × (o ≡ Some p) × (p.off ≡ position.0) × (p.client.next ≡ position.1)
pointer_from None position e = absurd (cc)
pointer_from (Some p) position e = let same : (p.off, p.client.next) ≡ position = cc in (p, refl, ap (λ (x : ℕ × ℕ). x.0) same, ap (λ (x : ℕ × ℕ). x.1) same)

pub record IsReader (b : Inside) (client : ℕ) (from : Position) : Type 0 where
  pub pointer : Pointer
  pub lives : slot_at b.clients client ≡ Some pointer
  pub walk : IsWalk b.ring.bytes from (at b.total b.count)
  pub rest : ring_between b.ring.bytes from (at b.total b.count) ≡ drop (from.place - b.first) (window_of b).kept
  pub place : pointer.client.next ≡ from.place
  pub first : b.first ≤ from.place
  pub last : from.place ≤ b.count
  pub found : found_in pointer.client b.first (window_of b).kept ≡ found_in pointer.client from.place (ring_between b.ring.bytes from (at b.total b.count))

same_at : (o p o' p' : ℕ) → o ≡ o' → p ≡ p' → at o p ≡ at o' p'
same_at o p o' p' e f = cc

pub reader : (b : Inside) (client : ℕ) (position : ℕ × ℕ) → IsRingBuffer b → Some position ≡ option_map position_of (slot_at b.clients client) → IsReader b client (at position.0 position.1)
reader b client position is e =
    let from = pointer_from (slot_at b.clients client) position e in
    let walk : IsWalkOf b from.0 = walk_of b client from.0 is from.1 in
    subst (λ (f : Position). IsReader b client f) (same_at from.0.off from.0.client.next position.0 position.1 from.2 from.3)
    (record {
      pointer = from.0;
      lives = from.1;
      walk = walk.walk;
      rest = walk.rest;
      place = refl;
      first = walk.from;
      last = walk.to;
      found = found_walk b from.0 walk;
    })

-- the event that was found for the client
pub record IsGiven (b : Inside) (client : ℕ) (from : Position) (f : Found) : Type 0 where
  pub fits : FitsSlot (ring_event_at b.ring.bytes f.at.off)
  pub found : (c : Client) → slot_at (clients_of b.clients) client ≡ Some c → found_in c b.first (window_of b).kept ≡ Some (f.at.place, ring_event_at b.ring.bytes f.at.off)
  pub size : f.front.header.data_size ≡ length (ring_event_at b.ring.bytes f.at.off).event.body
  pub whole : event_of f.front.header (bytes_at b.ring.bytes (f.at.off + 24) f.front.header.data_size) ≡ (ring_event_at b.ring.bytes f.at.off).event
  pub behind : f.at.off + slot_of_sent (ring_event_at b.ring.bytes f.at.off) + sum_by slot_of_sent (drop (f.at.place + 1 - b.first) (window_of b).kept) ≡ b.total
  pub later : from.place ≤ f.at.place

same_client : (c d : Client) (o : Option Client) → o ≡ Some c → o ≡ Some d → c ≡ d
same_client c d o e f = cc

pub given : (b : Inside) (client : ℕ) (from : Position) (f : Found) → IsReader b client from → IsFoundFor b.ring.bytes (clients_of b.clients) client from (at b.total b.count) f → IsGiven b client from f
given b client from f r found =
    let s : Sent = ring_event_at b.ring.bytes f.at.off in
    let next : IsNext b.ring.bytes from f.at.off f.at.place (at b.total b.count) = next_is b.ring.bytes from f.at.off f.at.place (at b.total b.count) found.on_way found.early in
    let index : (from.place - b.first) + (f.at.place + 1 - from.place) ≡ f.at.place + 1 - b.first = omega (arith, r.first, found.on_way.later) in
    let rest : ring_between b.ring.bytes (at (f.at.off + slot_of_sent (ring_event_at b.ring.bytes f.at.off)) (f.at.place + 1)) (at b.total b.count) ≡ drop (f.at.place + 1 - b.first) (window_of b).kept =
    next.on_way.rest
    ∙ (ap (λ (ss : List Sent). drop (f.at.place + 1 - from.place) ss) r.rest
    ∙ (drop-drop (f.at.place + 1 - from.place) (from.place - b.first) (window_of b).kept ∙ ap (λ (n : ℕ). drop n (window_of b).kept) index)) in
    record {
      fits = next.fits;
      found = λ c lives.
          let own : c ≡ r.pointer.client = same_client c r.pointer.client _ lives (client_is b client r.pointer r.lives) in
          subst (λ (d : Client). found_in d b.first (window_of b).kept ≡ Some (f.at.place, ring_event_at b.ring.bytes f.at.off)) (sym own)
          (r.found ∙ found.found r.pointer.client (client_is b client r.pointer r.lives));
      size = ap (λ (h : Header). h.data_size) found.header;
      whole =
          ap (λ (h : Header). event_of h (bytes_at b.ring.bytes (f.at.off + 24) h.data_size)) found.header
          ∙ ap (λ (bs : List ℕ). event_of (fields_of (ring_event_at b.ring.bytes f.at.off).event) bs) next.holds.body;
      behind = ap (λ (ss : List Sent). f.at.off + slot_of_sent (ring_event_at b.ring.bytes f.at.off) + sum_by slot_of_sent ss) (sym rest) ∙ next.on_way.walk.level;
      later = found.on_way.later;
    }

pub got_reply : (b : Inside) (w : Window) (client room start : ℕ) (from : Position) (f : Found) → window_of b ≡ w → IsReader b client from → IsGiven b client from f → start ≡ (ring_event_at b.ring.bytes f.at.off).start
    → f.front.header.data_size ≤ room → Got f.at.place start ≡ receive_reply_to w room (slot_at w.clients client)
got_reply b w client room start from f view r g started fits =
    let s : Sent = ring_event_at b.ring.bytes f.at.off in
    let fit : nat_le (length s.event.body) room ≡ true = le-leb _ _ (omega (arith, g.size, fits)) in
    let here : receive_reply_to (window_of b) room (slot_at (clients_of b.clients) client) ≡ Got f.at.place s.start =
    ap (receive_reply_to (window_of b) room) (client_is b client r.pointer r.lives)
    ∙ (ap (found_reply b.gate b.last room) (g.found r.pointer.client (client_is b client r.pointer r.lives))
    ∙ ap (λ (x : Bool). if x then Got f.at.place s.start else SmallBuf (length s.event.body)) fit) in
    ap (λ (n : ℕ). Got f.at.place n) started ∙ subst (λ (x : Window). Got f.at.place s.start ≡ receive_reply_to x room (slot_at x.clients client)) view (sym here)

pub small_reply : (b : Inside) (w : Window) (client room : ℕ) (from : Position) (f : Found) → window_of b ≡ w → IsReader b client from → IsGiven b client from f → room < f.front.header.data_size
    → SmallBuf f.front.header.data_size ≡ receive_reply_to w room (slot_at w.clients client)
small_reply b w client room from f view r g long =
    let s : Sent = ring_event_at b.ring.bytes f.at.off in
    let fit : nat_le (length s.event.body) room ≡ false = lt-leb _ _ (omega (arith, g.size, long)) in
    let here : receive_reply_to (window_of b) room (slot_at (clients_of b.clients) client) ≡ SmallBuf (length s.event.body) =
    ap (receive_reply_to (window_of b) room) (client_is b client r.pointer r.lives)
    ∙ (ap (found_reply b.gate b.last room) (g.found r.pointer.client (client_is b client r.pointer r.lives))
    ∙ ap (λ (x : Bool). if x then Got f.at.place s.start else SmallBuf (length s.event.body)) fit) in
    ap (λ (n : ℕ). SmallBuf n) g.size ∙ subst (λ (x : Window). SmallBuf (length s.event.body) ≡ receive_reply_to x room (slot_at x.clients client)) view (sym here)

pub empty_reply : (b : Inside) (w : Window) (client room : ℕ) (from : Position) → window_of b ≡ w → IsReader b client from → FindsNothing b.ring.bytes (clients_of b.clients) client from (at b.total b.count)
    → Empty b.gate b.last ≡ receive_reply_to w room (slot_at w.clients client)
empty_reply b w client room from view r nothing =
    let lives = client_is b client r.pointer r.lives in
    let here : receive_reply_to (window_of b) room (slot_at (clients_of b.clients) client) ≡ Empty b.gate b.last =
    ap (receive_reply_to (window_of b) room) lives ∙ ap (found_reply b.gate b.last room) (r.found ∙ nothing r.pointer.client lives) in
    subst (λ (x : Window). Empty b.gate b.last ≡ receive_reply_to x room (slot_at x.clients client)) view (sym here)

-- the client goes on

pub advanced : (P : Type 0) (r : Result ⊤ NoClient) (b : Inside) (client : ℕ) (from : Position) → IsReader b client from → r ≡ detach_reply_to (slot_at (clients_of b.clients) client) → OnOk r P → P
advanced P r b client from is reply here =
    let ok : r ≡ detach_reply_to (Some is.pointer.client) = reply ∙ ap detach_reply_to (client_is b client is.pointer is.lives) in
    subst (λ (x : Result ⊤ NoClient). OnOk x P) ok here

pub window_moved : (b : Inside) (slots : List (Option Pointer)) (client off' place' : ℕ) → slots ≡ change_slot (moved off' place') b.clients client
    → window_of (with_pointers b slots) ≡ with_clients (window_of b) (change_slot (going_on place') (clients_of b.clients) client)
window_moved b slots client off' place' are =
    ap (with_clients (window_of b)) (ap clients_of are ∙ clients_change (moved off' place') (going_on place') (λ p. refl) b.clients client)

moved_from : (off' place' : ℕ) (o : Option Pointer) (p : Pointer) → option_map (moved off' place') o ≡ Some p → (p.off ≡ off') × (p.client.next ≡ place')
moved_from off' place' None p e = absurd (cc)
moved_from off' place' (Some q) p e = let same : moved off' place' q ≡ p = cc in (sym (ap (λ (x : Pointer). x.off) same), sym (ap (λ (x : Pointer). x.client.next) same))

pub ring_moved : (b : Inside) (slots : List (Option Pointer)) (client off' place' : ℕ) → IsRingBuffer b → slots ≡ change_slot (moved off' place') b.clients client
    → off' + sum_by slot_of_sent (drop (place' - b.first) (window_of b).kept) ≡ b.total → IsWindow (with_clients (window_of b) (change_slot (going_on place') (clients_of b.clients) client)) → IsRingBuffer (with_pointers b slots)
ring_moved b slots client off' place' is are placed window =
    ring_clients b slots is (subst IsWindow (sym (window_moved b slots client off' place' are)) window)
    (λ n p e.
    placed_set (λ (q : Pointer). IsAtOffset (window_of b) q) b.clients client (option_map (moved off' place') (slot_at b.clients client)) is.placed
    (λ q e. let m = moved_from off' place' (slot_at b.clients client) q e in
    ap (λ (k : ℕ). q.off + sum_by slot_of_sent (drop (k - b.first) (window_of b).kept)) m.1 ∙ (ap (λ (k : ℕ). k + sum_by slot_of_sent (drop (place' - b.first) (window_of b).kept)) m.0 ∙ placed))
    n p (subst (λ (xs : List (Option Pointer)). slot_at xs n ≡ Some p) are e))

-- the data fit the ring
pub given_room : (b : Inside) (client : ℕ) (from : Position) (f : Found) → IsRingBuffer b → IsReader b client from → IsFoundFor b.ring.bytes (clients_of b.clients) client from (at b.total b.count) f → slot_of_sent (ring_event_at b.ring.bytes f.at.off) ≤ length b.ring.bytes
given_room b client from f is r found =
    let kept : List Sent = (window_of b).kept in
    let j : ℕ = (from.place - b.first) + (f.at.place - from.place) in
    let next : IsNext b.ring.bytes from f.at.off f.at.place (at b.total b.count) = next_is b.ring.bytes from f.at.off f.at.place (at b.total b.count) found.on_way found.early in
    let rest : List Sent = ring_between b.ring.bytes (at (f.at.off + slot_of_sent (ring_event_at b.ring.bytes f.at.off)) (f.at.place + 1)) (at b.total b.count) in
    let cut : ring_between b.ring.bytes f.at (at b.total b.count) ≡ drop j kept =
    found.on_way.rest ∙ (ap (λ (ss : List Sent). drop (f.at.place - from.place) ss) r.rest ∙ drop-drop (f.at.place - from.place) (from.place - b.first) kept) in
    let sum : sum_by slot_of_sent (drop j kept) ≡ slot_of_sent (ring_event_at b.ring.bytes f.at.off) + sum_by slot_of_sent rest =
    ap (λ (ss : List Sent). sum_by slot_of_sent ss) (sym cut ∙ next.first) ∙ sum_by-cons slot_of_sent (ring_event_at b.ring.bytes f.at.off) rest in
    omega (arith, sum, sum_by-take-drop slot_of_sent kept j, is.window.fits)
