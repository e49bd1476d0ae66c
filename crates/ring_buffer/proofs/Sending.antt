-- An event that is written behind the kept ones.
use Rattle.std.specs.Prelude.{◌≡◌, ℕ, zero, suc, ◌+◌, ◌-◌, ◌^◌, ◌<◌, ◌≤◌, if◌then◌else◌, nat_lt, List, [], ◌∷◌, ◌++◌, length, take, drop, sum_by, Option, Some, None, max, refl}
use Rattle.std.specs.Option.{option_map}
use Rattle.std.proofs.Common.{ap, sym, ◌∙◌, subst, arith}
use Rattle.std.proofs.lemmas.Bool.{ltb-true, ltb-false}
use Rattle.std.proofs.lemmas.List.{drop-drop, drop-append-le, length-drop, length_push}
use Rattle.std.proofs.lemmas.List.Sums.{sum_by-cons, sum_by_push, sum_by-take-drop}
use Rattle.daq_types.specs.declared.events.Event.{Event}
use Rattle.event.specs.Events.{slot_size, event_limit}
use Rattle.event.specs.declared.head.Header.{Header}
use Rattle.event.specs.Headers.{event_of, fields_of}
use Rattle.event.proofs.Headers.{header_back}
use Rattle.ring_buffer.specs.Rings.{CountedBytes, bytes_at, KeepsOtherOffsets}
use Rattle.ring_buffer.proofs.RingLaws.{bytes_at-turn}
use Rattle.buffer_core.specs.declared.client.Client.{Client}
use Rattle.buffer_core.specs.Slots.{slot_at, change_all}
use Rattle.buffer_core.proofs.SlotLaws.{split, slot_change_all}
use Rattle.buffer_core.specs.Window.{Sent, Window, slot_of_sent, level_of, accepted_of, IsWindow}
use Rattle.buffer_core.proofs.WindowLaws.{slot_cover, to_drop_within, to_drop_fits}
use Rattle.buffer_core.specs.Calls.{pushed, going_on, gone_of, after_send}
use Rattle.ring_buffer.specs.declared.pointer.Pointer.{Pointer}
use Rattle.ring_buffer.specs.Pointers.{clients_of, raised, moved}
use Rattle.ring_buffer.proofs.PointerLaws.{clients_change_all, client_at}
use Rattle.ring_buffer.specs.declared.ring_buffer.RingBuffer.TheInside.{Inside}
use Rattle.ring_buffer.specs.CountedWindows.{CountedWindow}
use Rattle.ring_buffer.specs.RingHolds.{front_of, HoldsEvent, HoldsEvents}
use Rattle.ring_buffer.specs.Stored.{ring_event_at, ring_events_at, event_in, length_in, FitsSlot, AllFit, IsHeader}
use Rattle.ring_buffer.specs.RingViews.{window_of, counted_of, IsRingBuffer}
use Rattle.ring_buffer.proofs.Fields.{event_back, length_back}

-- What stands in a ring is read back.

event_read : (ring : List ℕ) (off : ℕ) (s : Sent) → HoldsEvent ring off s → FitsSlot s → ring_event_at ring off ≡ s
unfolding ring_event_at
event_read ring off s holds fits =
    let size : length_in (bytes_at ring off 24) ≡ length s.event.body = ap length_in holds.front ∙ length_back s.start (fields_of s.event) (omega (arith, fits.small)) in
    ap (λ (n : ℕ). event_in (bytes_at ring off 24) (bytes_at ring (off + 24) n)) size
    ∙ (ap (λ (bs : List ℕ). event_in (bytes_at ring off 24) bs) holds.body
    ∙ (ap (λ (bs : List ℕ). event_in bs s.event.body) holds.front ∙ event_back s fits))

pub events_read : (ring : List ℕ) (off : ℕ) (ss : List Sent) → HoldsEvents ring off ss → AllFit ss → ring_events_at ring off (length ss) ≡ ss
unfolding ring_events_at
events_read ring off [] holds fits = refl
events_read ring off (s ∷ ss) holds fits =
    let one : ring_event_at ring off ≡ s = event_read ring off s holds.0 fits.0 in
    ap (λ (x : Sent). x ∷ ring_events_at ring (off + slot_of_sent x) (length ss)) one
    ∙ ap (λ (xs : List Sent). s ∷ xs) (events_read ring (off + slot_of_sent s) ss holds.1 fits.1)

pub length-events_at : (ring : List ℕ) (off n : ℕ) → length (ring_events_at ring off n) ≡ n
unfolding ring_events_at
length-events_at ring off zero = refl
length-events_at ring off (suc n) = ap (λ (k : ℕ). suc k) (length-events_at ring (off + slot_of_sent (ring_event_at ring off)) n)

-- Parts of the kept events.

pub holds_drop : (ring : List ℕ) (n off : ℕ) (ss : List Sent) → HoldsEvents ring off ss → HoldsEvents ring (off + sum_by slot_of_sent (take n ss)) (drop n ss)
holds_drop ring zero off ss holds = subst (λ (o : ℕ). HoldsEvents ring o ss) (let same : off ≡ off + 0 = omega arith in same) holds
holds_drop ring (suc n) off [] holds = tt
holds_drop ring (suc n) off (s ∷ ss) holds =
    let same : off + slot_of_sent s + sum_by slot_of_sent (take n ss) ≡ off + sum_by slot_of_sent (s ∷ take n ss) = omega (arith, sum_by-cons slot_of_sent s (take n ss)) in
    subst (λ (o : ℕ). HoldsEvents ring o (drop n ss)) same (holds_drop ring n (off + slot_of_sent s) ss holds.1)

pub fit_drop : (n : ℕ) (ss : List Sent) → AllFit ss → AllFit (drop n ss)
fit_drop zero ss fits = fits
fit_drop (suc n) [] fits = tt
fit_drop (suc n) (s ∷ ss) fits = fit_drop n ss fits.1

fit_push : (ss : List Sent) (s : Sent) → AllFit ss → FitsSlot s → AllFit (ss ++ s ∷ [])
fit_push [] s fits fit = (fit, tt)
fit_push (x ∷ xs) s fits fit = (fits.0, fit_push xs s fits.1 fit)

holds_push : (ring : List ℕ) (off end : ℕ) (ss : List Sent) (s : Sent) → HoldsEvents ring off ss → off + sum_by slot_of_sent ss ≡ end → HoldsEvent ring end s → HoldsEvents ring off (ss ++ s ∷ [])
holds_push ring off end [] s holds at_end here = (subst (λ (o : ℕ). HoldsEvent ring o s) (let same : end ≡ off = omega (arith, at_end) in same) here, tt)
holds_push ring off end (x ∷ xs) s holds at_end here =
    (holds.0, holds_push ring (off + slot_of_sent x) end xs s holds.1 (omega (arith, at_end, sum_by-cons slot_of_sent x xs)) here)

-- The event is written.

-- what is in front of its data and the data themselves were written one behind the other, in a slot that fits
pub record IsWritten (ring once new : List ℕ) (total slot : ℕ) (front body : List ℕ) : Type 0 where
  pub keeps : KeepsOtherOffsets ring once total 24
  pub fronts : bytes_at once total 24 ≡ front
  pub long : length once ≡ length ring
  pub keeps_on : KeepsOtherOffsets once new (total + 24) (length body)
  pub bodies : bytes_at new (total + 24) (length body) ≡ body
  pub long_on : length new ≡ length once
  pub covers : length body + 24 ≤ slot
  pub fits : slot ≤ length ring

kept_bytes : (ring once new : List ℕ) (total slot : ℕ) (front body : List ℕ) (o n : ℕ) → IsWritten ring once new total slot front body → total + slot ≤ o + length ring → o + n ≤ total
    → bytes_at new o n ≡ bytes_at ring o n
kept_bytes ring once new total slot front body o n is late early =
    sym (bytes_at-turn new o n)
    ∙ (ap (λ (k : ℕ). bytes_at new (o + k) n) (is.long_on ∙ is.long)
    ∙ (is.keeps_on (o + length ring) n (omega (arith, late, is.covers)) (omega (arith, early, is.long))
    ∙ (is.keeps (o + length ring) n (omega (arith, late, is.covers)) (omega (arith, early)) ∙ bytes_at-turn ring o n)))

holds_still : (ring once new : List ℕ) (total slot : ℕ) (front body : List ℕ) (o : ℕ) (ss : List Sent) → IsWritten ring once new total slot front body → total + slot ≤ o + length ring → o + sum_by slot_of_sent ss ≡ total
    → HoldsEvents ring o ss → HoldsEvents new o ss
holds_still ring once new total slot front body o [] is late ends holds = tt
holds_still ring once new total slot front body o (s ∷ ss) is late ends holds =
    let sum : o + (slot_of_sent s + sum_by slot_of_sent ss) ≡ total = omega (arith, ends, sum_by-cons slot_of_sent s ss) in
    let room : length s.event.body + 24 ≤ slot_of_sent s = slot_cover (length s.event.body) in (
      record {
        front = kept_bytes ring once new total slot front body o 24 is late (omega (arith, sum, room)) ∙ holds.0.front;
        body = kept_bytes ring once new total slot front body (o + 24) (length s.event.body) is (omega (arith, late)) (omega (arith, sum, room)) ∙ holds.0.body;
      },
      holds_still ring once new total slot front body (o + slot_of_sent s) ss is (omega (arith, late)) (omega (arith, sum)) holds.1,
    )

new_event : (ring once new : List ℕ) (total slot start : ℕ) (h : Header) (body front : List ℕ) → IsWritten ring once new total slot front body → front ≡ front_of start h → h.data_size ≡ length body
    → HoldsEvent new total (record { event = event_of h body; start = start })
new_event ring once new total slot start h body front is front_is stated =
    record {
      front =
          sym (bytes_at-turn new total 24)
          ∙ (ap (λ (k : ℕ). bytes_at new (total + k) 24) (is.long_on ∙ is.long)
          ∙ (is.keeps_on (total + length ring) 24 (omega (arith, is.covers, is.fits)) (omega (arith, is.long))
          ∙ (ap (λ (k : ℕ). bytes_at once (total + k) 24) (sym is.long)
          ∙ (bytes_at-turn once total 24 ∙ (is.fronts ∙ (front_is ∙ ap (λ (k : Header). front_of start k) (sym (header_back h body stated))))))));
      body = is.bodies;
    }

-- The buffer afterwards.

-- so many events go, and the rest stands from this offset on
pub record IsAdmitted (b : Inside) (way_off way_place start : ℕ) (h : Header) (body : List ℕ) : Type 0 where
  pub place : way_place ≡ b.first + gone_of (window_of b) (event_of h body)
  pub level : way_off + sum_by slot_of_sent (drop (gone_of (window_of b) (event_of h body)) (window_of b).kept) ≡ b.total
  pub stated : h.data_size ≡ length body
  pub room : sum_by slot_of_sent (drop (gone_of (window_of b) (event_of h body)) (window_of b).kept) + slot_size (event_of h body) ≤ length b.ring.bytes
  pub fit : FitsSlot (record { event = event_of h body; start = start })
  pub window : IsWindow (after_send (window_of b) start (event_of h body))

abbrev pub after : (b : Inside) (ring : CountedBytes) (off place slot : ℕ) (clients : List (Option Pointer)) → Inside
after b ring off place slot clients = record { ring = ring; first = place; off = off; count = b.count + 1; total = b.total + slot; clients = clients; gate = b.gate; last = b.last }

mapped : (f : Pointer → Pointer) (o : Option Pointer) (y : Pointer) → option_map f o ≡ Some y → (x : Pointer) × (o ≡ Some x) × (f x ≡ y)
mapped f None y e = absurd (cc)
mapped f (Some x) y e = (x, refl, cc)

pushed_is : (off place : ℕ) (p : Pointer) → (raised off place p).client ≡ pushed place p.client
pushed_is off place p =
    split (nat_lt p.client.next place) (λ b. (if b then moved off place p else p).client ≡ pushed place p.client)
    (λ h. ap (λ (n : ℕ). going_on n p.client) (let most : place ≡ max p.client.next place = omega (arith, ltb-true p.client.next place h) in most))
    (λ h. ap (λ (n : ℕ). going_on n p.client) (let most : p.client.next ≡ max p.client.next place = omega (arith, ltb-false p.client.next place h) in most))

placed_after : (first place gone off' total : ℕ) (kept : List Sent) (s : Sent) (p : Pointer) → p.off + sum_by slot_of_sent (drop (p.client.next - first) kept) ≡ total → first ≤ p.client.next → p.client.next ≤ first + length kept
    → place ≡ first + gone → gone ≤ length kept → off' + sum_by slot_of_sent (drop gone kept) ≡ total
    → (raised off' place p).off + sum_by slot_of_sent (drop ((raised off' place p).client.next - place) (drop gone kept ++ s ∷ [])) ≡ total + slot_of_sent s
placed_after first place gone off' total kept s p at from to place_is within way =
    split (nat_lt p.client.next place) (λ b. (if b then moved off' place p else p).off + sum_by slot_of_sent (drop ((if b then moved off' place p else p).client.next - place) (drop gone kept ++ s ∷ [])) ≡ total + slot_of_sent s)
    (λ h.
    let none : place - place ≡ 0 = omega arith in
    let here : sum_by slot_of_sent (drop (place - place) (drop gone kept ++ s ∷ [])) ≡ sum_by slot_of_sent (drop gone kept ++ s ∷ []) = ap (λ (k : ℕ). sum_by slot_of_sent (drop k (drop gone kept ++ s ∷ []))) none in
    omega (arith, here, sum_by_push slot_of_sent (drop gone kept) s, way))
    (λ h.
    let k : ℕ = p.client.next - place in
    let ahead : place ≤ p.client.next = ltb-false p.client.next place h in
    let short : k ≤ length (drop gone kept) = omega (arith, ahead, to, place_is, length-drop gone kept, within) in
    let index : gone + k ≡ p.client.next - first = omega (arith, ahead, place_is) in
    let cut : sum_by slot_of_sent (drop k (drop gone kept ++ s ∷ [])) ≡ sum_by slot_of_sent (drop k (drop gone kept) ++ s ∷ []) = ap (λ (ss : List Sent). sum_by slot_of_sent ss) (drop-append-le k (drop gone kept) (s ∷ []) short) in
    let old : sum_by slot_of_sent (drop k (drop gone kept)) ≡ sum_by slot_of_sent (drop (p.client.next - first) kept) = ap (λ (ss : List Sent). sum_by slot_of_sent ss) (drop-drop k gone kept ∙ ap (λ (n : ℕ). drop n kept) index) in
    omega (arith, cut, sum_by_push slot_of_sent (drop k (drop gone kept)) s, old, at))

-- the window that is seen
pub window_seen : (b : Inside) (v : CountedWindow) → counted_of b ≡ v → window_of b ≡ v.window
window_seen b v view = ap (λ (x : CountedWindow). x.window) view

pub accepted_is : (b : Inside) → IsRingBuffer b → accepted_of (window_of b) ≡ b.count
accepted_is b is = omega (arith, length-events_at b.ring.bytes b.off (b.count - b.first), is.order)

-- what stands in the ring afterwards
pub record Stands (b : Inside) (new : List ℕ) (off place start : ℕ) (e : Event) : Type 0 where
  pub kept : ring_events_at new off (b.count + 1 - place) ≡ (after_send (window_of b) start e).kept
  pub holds : HoldsEvents new off (after_send (window_of b) start e).kept
  pub fits : AllFit (after_send (window_of b) start e).kept
  pub sum : off + sum_by slot_of_sent (after_send (window_of b) start e).kept ≡ b.total + slot_size e
  pub within : gone_of (window_of b) e ≤ length (window_of b).kept

pub stands : (b : Inside) (once new : List ℕ) (off place start : ℕ) (h : Header) (body front : List ℕ) → IsRingBuffer b → IsAdmitted b off place start h body → IsWritten b.ring.bytes once new b.total (slot_size (event_of h body)) front body → front ≡ front_of start h
    → Stands b new off place start (event_of h body)
stands b once new off place start h body front is adm written front_is =
    let kept : List Sent = (window_of b).kept in
    let e : Event = event_of h body in
    let gone : ℕ = gone_of (window_of b) (event_of h body) in
    let rest : List Sent = drop (gone_of (window_of b) (event_of h body)) (window_of b).kept in
    let s : Sent = record { event = event_of h body; start = start } in
    let within : gone_of (window_of b) (event_of h body) ≤ length (window_of b).kept = to_drop_within slot_of_sent (length b.ring.bytes) (slot_size (event_of h body)) (window_of b).kept in
    let sums : sum_by slot_of_sent (take gone kept) + sum_by slot_of_sent (drop gone kept) ≡ sum_by slot_of_sent kept = sum_by-take-drop slot_of_sent kept gone in
    let first_off : b.total - level_of (window_of b) ≡ b.off = omega (arith, is.level) in
    let old : HoldsEvents b.ring.bytes b.off kept = subst (λ (o : ℕ). HoldsEvents b.ring.bytes o (window_of b).kept) first_off is.holds.events in
    let rest_off : b.off + sum_by slot_of_sent (take gone kept) ≡ off = omega (arith, sums, is.level, adm.level) in
    let old_rest : HoldsEvents b.ring.bytes off rest = subst (λ (o : ℕ). HoldsEvents b.ring.bytes o (drop gone kept)) rest_off (holds_drop b.ring.bytes gone b.off kept old) in
    let new_rest : HoldsEvents new off rest = holds_still b.ring.bytes once new b.total (slot_size (event_of h body)) front body off rest written (omega (arith, adm.room, adm.level)) adm.level old_rest in
    let holds : HoldsEvents new off (rest ++ s ∷ []) =
    holds_push new off b.total rest s new_rest adm.level (new_event b.ring.bytes once new b.total (slot_size (event_of h body)) start h body front written front_is adm.stated) in
    let fits : AllFit (rest ++ s ∷ []) = fit_push rest s (fit_drop gone kept is.fit) adm.fit in
    let count : b.count + 1 - place ≡ length (rest ++ s ∷ []) =
    omega (arith, length_push rest s, length-drop gone kept, within, length-events_at b.ring.bytes b.off (b.count - b.first), is.order, adm.place) in
    record {
      kept = ap (λ (n : ℕ). ring_events_at new off n) count ∙ events_read new off (rest ++ s ∷ []) holds fits;
      holds = holds;
      fits = fits;
      sum = omega (arith, sum_by_push slot_of_sent rest s, adm.level);
      within = within;
    }

pub window_after_is : (b : Inside) (once : List ℕ) (new : CountedBytes) (off place slot start : ℕ) (h : Header) (body front : List ℕ) (clients : List (Option Pointer)) → IsRingBuffer b → IsAdmitted b off place start h body
    → IsWritten b.ring.bytes once new.bytes b.total (slot_size (event_of h body)) front body → front ≡ front_of start h → slot ≡ slot_size (event_of h body) → clients ≡ change_all (raised off place) b.clients
    → window_of (after b new off place slot clients) ≡ after_send (window_of b) start (event_of h body)
window_after_is b once new off place slot start h body front clients is adm written front_is slot_is clients_are =
    let there : Stands b new.bytes off place start (event_of h body) = stands b once new.bytes off place start h body front is adm written front_is in
    let w : Window = after_send (window_of b) start (event_of h body) in
    let made : ℕ → ℕ → List Sent → List (Option Client) → ℕ → Window = λ size first kept cs total. record { size = size; first = first; kept = kept; clients = cs; gate = b.gate; last = b.last; total = total } in
    let cs : clients_of clients ≡ change_all (pushed (b.first + gone_of (window_of b) (event_of h body))) (clients_of b.clients) =
    ap clients_of clients_are
    ∙ (clients_change_all (raised off place) (pushed place) (pushed_is off place) b.clients
    ∙ ap (λ (n : ℕ). change_all (pushed n) (clients_of b.clients)) adm.place) in
    ap (λ (n : ℕ). made n place (ring_events_at new.bytes off (b.count + 1 - place)) (clients_of clients) (b.total + slot)) (written.long_on ∙ written.long)
    ∙ (ap (λ (n : ℕ). made (length b.ring.bytes) n (ring_events_at new.bytes off (b.count + 1 - place)) (clients_of clients) (b.total + slot)) adm.place
    ∙ (ap (λ (ss : List Sent). made (length b.ring.bytes) w.first ss (clients_of clients) (b.total + slot)) there.kept
    ∙ (ap (λ (xs : List (Option Client)). made (length b.ring.bytes) w.first w.kept xs (b.total + slot)) cs
    ∙ ap (λ (n : ℕ). made (length b.ring.bytes) w.first w.kept w.clients (b.total + n)) slot_is)))

pub ring_after_is : (b : Inside) (once : List ℕ) (new : CountedBytes) (off place slot start : ℕ) (h : Header) (body front : List ℕ) (clients : List (Option Pointer)) → IsRingBuffer b → IsAdmitted b off place start h body
    → IsWritten b.ring.bytes once new.bytes b.total (slot_size (event_of h body)) front body → front ≡ front_of start h → slot ≡ slot_size (event_of h body) → clients ≡ change_all (raised off place) b.clients
    → IsRingBuffer (after b new off place slot clients)
ring_after_is b once new off place slot start h body front clients is adm written front_is slot_is clients_are =
    let there : Stands b new.bytes off place start (event_of h body) = stands b once new.bytes off place start h body front is adm written front_is in
    let s : Sent = record { event = event_of h body; start = start } in
    let kept' : List Sent = (after_send (window_of b) start (event_of h body)).kept in
    let here_off : off ≡ b.total + slot - sum_by slot_of_sent kept' = omega (arith, there.sum, slot_is) in
    record {
      window = subst IsWindow (sym (window_after_is b once new off place slot start h body front clients is adm written front_is slot_is clients_are)) adm.window;
      holds = record {
        size = refl;
        events = subst (λ (ks : List Sent). HoldsEvents new.bytes (b.total + slot - sum_by slot_of_sent ks) ks) (sym there.kept) (subst (λ (o : ℕ). HoldsEvents new.bytes o kept') here_off there.holds);
      };
      fit = subst AllFit (sym there.kept) there.fits;
      least = omega (arith, is.least, written.long, written.long_on);
      order = omega (arith, adm.place, there.within, length-events_at b.ring.bytes b.off (b.count - b.first), is.order);
      level = omega (arith, ap (λ (ks : List Sent). sum_by slot_of_sent ks) there.kept, there.sum, slot_is);
      placed = λ n p lives.
          let from = mapped (raised off place) (slot_at b.clients n) p (sym (slot_change_all (raised off place) b.clients n) ∙ (ap (λ (xs : List (Option Pointer)). slot_at xs n) (sym clients_are) ∙ lives)) in
          let client = is.window.clients n from.0.client (client_at b.clients n ∙ ap (option_map (λ (q : Pointer). q.client)) from.1) in
          let one : (raised off place from.0).off + sum_by slot_of_sent (drop ((raised off place from.0).client.next - place) kept') ≡ b.total + slot_of_sent s =
          placed_after b.first place (gone_of (window_of b) (event_of h body)) off b.total (window_of b).kept s from.0 (is.placed n from.0 from.1) client.from client.to adm.place there.within adm.level in
          let moved_is : p.off + sum_by slot_of_sent (drop (p.client.next - place) kept') ≡ b.total + slot_of_sent s = subst (λ (q : Pointer). q.off + sum_by slot_of_sent (drop (q.client.next - place) kept') ≡ b.total + slot_of_sent s) from.2 one in
          omega (arith, ap (λ (ks : List Sent). sum_by slot_of_sent (drop (p.client.next - place) ks)) there.kept, moved_is, slot_is);
    }

pub written_is : (ring once new : List ℕ) (total slot : ℕ) (front body : List ℕ) → length front ≡ 24 → KeepsOtherOffsets ring once total (length front) → bytes_at once total (length front) ≡ front → length once ≡ length ring
    → KeepsOtherOffsets once new (total + 24) (length body) → bytes_at new (total + 24) (length body) ≡ body → length new ≡ length once → length body + 24 ≤ slot → slot ≤ length ring → IsWritten ring once new total slot front body
written_is ring once new total slot front body size keeps fronts long keeps_on bodies long_on covers fits =
    record {
      keeps = subst (λ (n : ℕ). KeepsOtherOffsets ring once total n) size keeps;
      fronts = subst (λ (n : ℕ). bytes_at once total n ≡ front) size fronts;
      long = long;
      keeps_on = keeps_on;
      bodies = bodies;
      long_on = long_on;
      covers = covers;
      fits = fits;
    }

pub admitted : (b : Inside) (w : Window) (way_off way_place start : ℕ) (h : Header) (body : List ℕ) → window_of b ≡ w → IsRingBuffer b → way_place ≡ w.first + gone_of w (event_of h body)
    → way_off + sum_by slot_of_sent (drop (gone_of w (event_of h body)) w.kept) ≡ w.total → h.data_size ≡ length body → length body ≤ event_limit → slot_size (event_of h body) ≤ w.size → IsHeader h → start < 2 ^ 32
    → (IsWindow w → IsWindow (after_send w start (event_of h body))) → IsAdmitted b way_off way_place start h body
admitted b w way_off way_place start h body view is place level stated small fits header starts stays =
    let fits' : slot_size (event_of h body) ≤ length b.ring.bytes = omega (arith, fits, ap (λ (x : Window). x.size) view) in
    record {
      place = subst (λ (x : Window). way_place ≡ x.first + gone_of x (event_of h body)) (sym view) place;
      level = subst (λ (x : Window). way_off + sum_by slot_of_sent (drop (gone_of x (event_of h body)) x.kept) ≡ x.total) (sym view) level;
      stated = stated;
      room = to_drop_fits slot_of_sent (length b.ring.bytes) (slot_size (event_of h body)) (window_of b).kept fits';
      fit = record { id = header.id; mask = header.mask; serial = header.serial; time = header.time; start = starts; small = small };
      window = subst (λ (x : Window). IsWindow (after_send x start (event_of h body))) (sym view) (stays (subst IsWindow view is.window));
    }
