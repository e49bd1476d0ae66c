-- Going over kept events, one after the other.
use Rattle.std.specs.Prelude.{◌≡◌, ℕ, suc, ◌+◌, ◌-◌, ◌<◌, ◌≤◌, Bool, true, false, if◌then◌else◌, nat_le, List, [], ◌∷◌, length, take, drop, sum_by, Option, Some, None, refl}
use Rattle.std.proofs.Common.{ap, sym, ◌∙◌, subst, arith}
use Rattle.std.proofs.lemmas.Bool.{lt-leb}
use Rattle.std.proofs.lemmas.List.{drop-drop}
use Rattle.std.proofs.lemmas.List.Sums.{sum_by-cons}
use Rattle.daq_types.specs.declared.events.Event.{Event}
use Rattle.event.specs.Events.{matches, slot_of_length, event_limit}
use Rattle.event.specs.declared.head.Header.{Header}
use Rattle.event.specs.Headers.{event_of, fields_of}
use Rattle.buffer_core.specs.declared.client.Client.{Client}
use Rattle.buffer_core.specs.Slots.{slot_at, first_slot}
use Rattle.buffer_core.specs.Window.{Sent, slot_of_sent, owes, wants}
use Rattle.buffer_core.specs.Calls.{to_drop, owed_in, or_later, found_in}
use Rattle.buffer_core.proofs.WindowLaws.{to_drop_none}
use Rattle.ring_buffer.specs.Rings.{CountedBytes, IsRead}
use Rattle.ring_buffer.specs.declared.walk.Position.{Position}
use Rattle.ring_buffer.specs.RingHolds.{HoldsEvent, HoldsEvents}
use Rattle.ring_buffer.specs.Stored.{ring_event_at, ring_events_at, FitsSlot, AllFit}
use Rattle.ring_buffer.specs.Reads.{ReadsFronts}
use Rattle.ring_buffer.specs.Walks.{ring_between, IsOnWay, to_go, in_the_way, IsWay}
use Rattle.ring_buffer.proofs.CountLaws.{one_more_read}

abbrev pub at : (off place : ℕ) → Position
at off place = record { off = off; place = place }

-- the event at a position before the end, and the walk behind it
pub record IsNext (ring : List ℕ) (from : Position) (off place : ℕ) (end : Position) : Type 0 where
  pub holds : HoldsEvent ring off (ring_event_at ring off)
  pub fits : FitsSlot (ring_event_at ring off)
  pub first : ring_between ring (at off place) end ≡ ring_event_at ring off ∷ ring_between ring (at (off + slot_of_sent (ring_event_at ring off)) (place + 1)) end
  pub on_way : IsOnWay ring from (at (off + slot_of_sent (ring_event_at ring off)) (place + 1)) end

next_by : (ring : List ℕ) (from : Position) (off place : ℕ) (end : Position) (n : ℕ) → IsOnWay ring from (at off place) end → end.place - place ≡ suc n → IsNext ring from off place end
unfolding ring_events_at
next_by ring from off place end n on left =
    let s : Sent = ring_event_at ring off in
    let left_is : n ≡ end.place - (place + 1) = omega (arith, left) in
    let rest : List Sent = ring_events_at ring (off + slot_of_sent (ring_event_at ring off)) n in
    let rest_is : rest ≡ ring_between ring (at (off + slot_of_sent (ring_event_at ring off)) (place + 1)) end = ap (λ (k : ℕ). ring_events_at ring (off + slot_of_sent (ring_event_at ring off)) k) left_is in
    let whole : ring_between ring (at off place) end ≡ ring_event_at ring off ∷ rest = ap (λ (k : ℕ). ring_events_at ring off k) left in
    let holds : HoldsEvents ring off (ring_event_at ring off ∷ rest) = subst (λ (ss : List Sent). HoldsEvents ring off ss) whole on.walk.holds in
    let fit : AllFit (ring_event_at ring off ∷ rest) = subst AllFit whole on.walk.fit in
    let sum : sum_by slot_of_sent (ring_between ring (at off place) end) ≡ slot_of_sent (ring_event_at ring off) + sum_by slot_of_sent rest =
    ap (λ (ss : List Sent). sum_by slot_of_sent ss) whole ∙ sum_by-cons slot_of_sent (ring_event_at ring off) rest in
    let sum' : sum_by slot_of_sent rest ≡ sum_by slot_of_sent (ring_between ring (at (off + slot_of_sent (ring_event_at ring off)) (place + 1)) end) = ap (λ (ss : List Sent). sum_by slot_of_sent ss) rest_is in
    let index : (place - from.place) + 1 ≡ place + 1 - from.place = omega (arith, on.later) in
    record {
      holds = holds.0;
      fits = fit.0;
      first = whole ∙ ap (λ (ss : List Sent). ring_event_at ring off ∷ ss) rest_is;
      on_way = record {
        later = omega (arith, on.later);
        walk = record {
          order = omega (arith, left);
          holds = subst (λ (ss : List Sent). HoldsEvents ring (off + slot_of_sent (ring_event_at ring off)) ss) rest_is holds.1;
          fit = subst AllFit rest_is fit.1;
          level = omega (arith, sum, sum', on.walk.level);
        };
        rest =
            sym rest_is
            ∙ (ap (λ (ss : List Sent). drop 1 ss) (sym whole ∙ on.rest)
            ∙ (drop-drop 1 (place - from.place) (ring_between ring from end) ∙ ap (λ (k : ℕ). drop k (ring_between ring from end)) index));
      };
    }

pub next_is : (ring : List ℕ) (from : Position) (off place : ℕ) (end : Position) → IsOnWay ring from (at off place) end → place < end.place → IsNext ring from off place end
next_is ring from off place end on early = next_by ring from off place end (end.place - (place + 1)) on (omega (arith, early))

-- at the end there is nothing left
pub end_is : (ring : List ℕ) (off place : ℕ) (end : Position) → end.place ≤ place → ring_between ring (at off place) end ≡ []
unfolding ring_events_at
end_is ring off place end late = ap (λ (k : ℕ). ring_events_at ring off k) (let none : end.place - place ≡ 0 = omega (arith, late) in none)

-- what stands in a ring stands in it after a read too
pub holds_read : (old new : List ℕ) (off : ℕ) (s : Sent) → new ≡ old → HoldsEvent old off s → HoldsEvent new off s
holds_read old new off s same holds = subst (λ (ring : List ℕ). HoldsEvent ring off s) (sym same) holds

-- The data do not matter to what clients want.

pub wants_bare : (place : ℕ) (e : Event) (c : Client) → wants place (event_of (fields_of e) []) c ≡ wants place e c
unfolding matches
wants_bare place e c = refl

pub first_bare : (place : ℕ) (e : Event) (clients : List (Option Client)) → first_slot (owes place (event_of (fields_of e) [])) clients ≡ first_slot (owes place e) clients
unfolding matches
first_bare place e clients = refl

-- Looking for the way.

-- gone over so far, each event has to go and none is owed
pub record IsWalked (ring : List ℕ) (clients : List (Option Client)) (from : Position) (off place : ℕ) (end : Position) (slot : ℕ) (before now : CountedBytes) : Type 0 where
  pub on_way : IsOnWay ring from (at off place) end
  pub gone : to_go ring from end slot ≡ (place - from.place) + to_go ring (at off place) end slot
  pub owed : in_the_way ring clients from end slot ≡ in_the_way ring clients (at off place) end slot
  pub read : ReadsFronts before now (place - from.place)

-- the least client that the event in front is owed to
pub owed_now : (place : ℕ) (h : Header) (s : Sent) (clients : List (Option Client)) (r : Option ℕ) → h ≡ fields_of s.event → r ≡ first_slot (owes place (event_of h [])) clients → first_slot (owes place s.event) clients ≡ r
owed_now place h s clients r same is =
    sym (first_bare place s.event clients) ∙ (sym (ap (λ (k : Header). first_slot (owes place (event_of k [])) clients) same) ∙ sym is)

-- the event in front has to go
goes : (ring : List ℕ) (from : Position) (off place : ℕ) (end : Position) (slot : ℕ) → IsOnWay ring from (at off place) end → IsNext ring from off place end → length ring < end.off - off + slot
    → to_go ring (at off place) end slot ≡ suc (to_go ring (at (off + slot_of_sent (ring_event_at ring off)) (place + 1)) end slot)
goes ring from off place end slot on next full =
    let rest : List Sent = ring_between ring (at (off + slot_of_sent (ring_event_at ring off)) (place + 1)) end in
    let sum : sum_by slot_of_sent (ring_between ring (at off place) end) ≡ sum_by slot_of_sent (ring_event_at ring off ∷ rest) = ap (λ (ss : List Sent). sum_by slot_of_sent ss) next.first in
    let not_yet : nat_le (sum_by slot_of_sent (ring_event_at ring off ∷ rest) + slot) (length ring) ≡ false = lt-leb _ _ (omega (arith, sum, on.walk.level, full)) in
    ap (λ (ss : List Sent). to_drop slot_of_sent (length ring) slot ss) next.first
    ∙ ap (λ (b : Bool). if b then 0 else suc (to_drop slot_of_sent (length ring) slot rest)) not_yet

way_at : (ring : List ℕ) (clients : List (Option Client)) (from : Position) (off place : ℕ) (end : Position) (slot : ℕ) → IsOnWay ring from (at off place) end → IsNext ring from off place end → length ring < end.off - off + slot
    → in_the_way ring clients (at off place) end slot
    ≡ or_later (first_slot (owes place (ring_event_at ring off).event) clients) place (in_the_way ring clients (at (off + slot_of_sent (ring_event_at ring off)) (place + 1)) end slot)
way_at ring clients from off place end slot on next full =
    let rest : List Sent = ring_between ring (at (off + slot_of_sent (ring_event_at ring off)) (place + 1)) end in
    let k : ℕ = to_go ring (at (off + slot_of_sent (ring_event_at ring off)) (place + 1)) end slot in
    let one : suc place ≡ place + 1 = omega arith in
    ap (λ (n : ℕ). owed_in clients place (take n (ring_between ring (at off place) end))) (goes ring from off place end slot on next full)
    ∙ (ap (λ (ss : List Sent). owed_in clients place (take (suc k) ss)) next.first
    ∙ ap (λ (n : ℕ). or_later (first_slot (owes place (ring_event_at ring off).event) clients) place (owed_in clients n (take k rest))) one)

pub walk_next : (ring : List ℕ) (clients : List (Option Client)) (from : Position) (off place : ℕ) (end : Position) (slot : ℕ) (before now now' : CountedBytes) (off' : ℕ) → IsWalked ring clients from off place end slot before now → place < end.place
    → length ring < end.off - off + slot → first_slot (owes place (ring_event_at ring off).event) clients ≡ None → IsRead now now' 1 24 → off' ≡ off + slot_of_sent (ring_event_at ring off)
    → IsWalked ring clients from off' (place + 1) end slot before now'
walk_next ring clients from off place end slot before now now' off' walked early full none stepped moved =
    let next : IsNext ring from off place end = next_is ring from off place end walked.on_way early in
    let here : IsWalked ring clients from (off + slot_of_sent (ring_event_at ring off)) (place + 1) end slot before now' =
    record {
      on_way = next.on_way;
      gone = omega (arith, walked.gone, goes ring from off place end slot walked.on_way next full, walked.on_way.later);
      owed =
          walked.owed
          ∙ (way_at ring clients from off place end slot walked.on_way next full
          ∙ ap (λ (o : Option ℕ). or_later o place (in_the_way ring clients (at (off + slot_of_sent (ring_event_at ring off)) (place + 1)) end slot)) none);
      read = one_more_read before now now' (place - from.place) (place + 1 - from.place) walked.read stepped (omega (arith, walked.on_way.later));
    } in
    subst (λ (o : ℕ). IsWalked ring clients from o (place + 1) end slot before now') (sym moved) here

pub walk_blocked : (ring : List ℕ) (clients : List (Option Client)) (from : Position) (off place : ℕ) (end : Position) (slot : ℕ) (before now : CountedBytes) (client : ℕ) → IsWalked ring clients from off place end slot before now → place < end.place
    → length ring < end.off - off + slot → first_slot (owes place (ring_event_at ring off).event) clients ≡ Some client → in_the_way ring clients from end slot ≡ Some (client, place)
walk_blocked ring clients from off place end slot before now client walked early full owed =
    walked.owed
    ∙ (way_at ring clients from off place end slot walked.on_way (next_is ring from off place end walked.on_way early) full
    ∙ ap (λ (o : Option ℕ). or_later o place (in_the_way ring clients (at (off + slot_of_sent (ring_event_at ring off)) (place + 1)) end slot)) owed)

pub walk_ends : (ring : List ℕ) (clients : List (Option Client)) (from : Position) (off place : ℕ) (end : Position) (slot : ℕ) (before now : CountedBytes) → IsWalked ring clients from off place end slot before now
    → end.off - off + slot ≤ length ring → IsWay ring clients from (at off place) end slot
walk_ends ring clients from off place end slot before now walked fits =
    let none : to_go ring (at off place) end slot ≡ 0 = to_drop_none slot_of_sent (length ring) slot (ring_between ring (at off place) end) (omega (arith, walked.on_way.walk.level, fits)) in
    record {
      on_way = walked.on_way;
      place = omega (arith, walked.gone, none, walked.on_way.later);
      free = walked.owed ∙ ap (λ (n : ℕ). owed_in clients place (take n (ring_between ring (at off place) end))) none;
    }

pub walk_out : (ring : List ℕ) (clients : List (Option Client)) (from : Position) (off place : ℕ) (end : Position) (slot : ℕ) (before now : CountedBytes) → IsWalked ring clients from off place end slot before now
    → place ≡ end.place → slot ≤ length ring → IsWay ring clients from (at off end.place) end slot
walk_out ring clients from off place end slot before now walked out fits =
    let none : sum_by slot_of_sent (ring_between ring (at off place) end) ≡ 0 = ap (λ (ss : List Sent). sum_by slot_of_sent ss) (end_is ring off place end (omega (arith, out))) in
    subst (λ (p : ℕ). IsWay ring clients from (at off p) end slot) out
    (walk_ends ring clients from off place end slot before now walked (omega (arith, none, walked.on_way.walk.level, fits)))

-- Looking for a client's next event.

pub record IsSought (ring : List ℕ) (clients : List (Option Client)) (client : ℕ) (from : Position) (off place : ℕ) (end : Position) (before now : CountedBytes) : Type 0 where
  pub on_way : IsOnWay ring from (at off place) end
  pub found : (c : Client) → slot_at clients client ≡ Some c → found_in c from.place (ring_between ring from end) ≡ found_in c place (ring_between ring (at off place) end)
  pub read : ReadsFronts before now (place - from.place)

-- whether the client wants the event in front
pub wanted_now : (place : ℕ) (h : Header) (s : Sent) (c : Client) (r : Bool) → h ≡ fields_of s.event → r ≡ wants place (event_of h []) c → wants place s.event c ≡ r
wanted_now place h s c r same is =
    sym (wants_bare place s.event c) ∙ (sym (ap (λ (k : Header). wants place (event_of k []) c) same) ∙ sym is)

-- the room that the event in front takes
pub moved_on : (off off' slot size : ℕ) (h : Header) (s : Sent) → h ≡ fields_of s.event → slot ≡ slot_of_length h.data_size → size ≡ slot → off' ≡ off + size → off' ≡ off + slot_of_sent s
moved_on off off' slot size h s same is_slot is_size is =
    is ∙ ap (λ (n : ℕ). off + n) (is_size ∙ (is_slot ∙ ap (λ (k : Header). slot_of_length k.data_size) same))

pub small_front : (h : Header) (s : Sent) → h ≡ fields_of s.event → FitsSlot s → h.data_size ≤ event_limit
small_front h s same fits = omega (arith, ap (λ (k : Header). k.data_size) same, fits.small)

found_at : (ring : List ℕ) (from : Position) (off place : ℕ) (end : Position) (c : Client) → IsNext ring from off place end
    → found_in c place (ring_between ring (at off place) end) ≡ (if wants place (ring_event_at ring off).event c then Some (place, ring_event_at ring off) else found_in c (place + 1) (ring_between ring (at (off + slot_of_sent (ring_event_at ring off)) (place + 1)) end))
found_at ring from off place end c next =
    let one : suc place ≡ place + 1 = omega arith in
    ap (λ (ss : List Sent). found_in c place ss) next.first
    ∙ ap (λ (n : ℕ). if wants place (ring_event_at ring off).event c then Some (place, ring_event_at ring off) else found_in c n (ring_between ring (at (off + slot_of_sent (ring_event_at ring off)) (place + 1)) end)) one

pub sought_next : (ring : List ℕ) (clients : List (Option Client)) (client : ℕ) (from : Position) (off place : ℕ) (end : Position) (before now now' : CountedBytes) (off' : ℕ) → IsSought ring clients client from off place end before now → place < end.place
    → ((c : Client) → slot_at clients client ≡ Some c → wants place (ring_event_at ring off).event c ≡ false) → IsRead now now' 1 24 → off' ≡ off + slot_of_sent (ring_event_at ring off)
    → IsSought ring clients client from off' (place + 1) end before now'
sought_next ring clients client from off place end before now now' off' sought early unwanted stepped moved =
    let next : IsNext ring from off place end = next_is ring from off place end sought.on_way early in
    let here : IsSought ring clients client from (off + slot_of_sent (ring_event_at ring off)) (place + 1) end before now' =
    record {
      on_way = next.on_way;
      found = λ c lives.
          sought.found c lives
          ∙ (found_at ring from off place end c next
          ∙ ap (λ (b : Bool). if b then Some (place, ring_event_at ring off) else found_in c (place + 1) (ring_between ring (at (off + slot_of_sent (ring_event_at ring off)) (place + 1)) end)) (unwanted c lives));
      read = one_more_read before now now' (place - from.place) (place + 1 - from.place) sought.read stepped (omega (arith, sought.on_way.later));
    } in
    subst (λ (o : ℕ). IsSought ring clients client from o (place + 1) end before now') (sym moved) here

pub sought_found : (ring : List ℕ) (clients : List (Option Client)) (client : ℕ) (from : Position) (off place : ℕ) (end : Position) (before now : CountedBytes) → IsSought ring clients client from off place end before now → place < end.place
    → (c : Client) → slot_at clients client ≡ Some c → wants place (ring_event_at ring off).event c ≡ true → found_in c from.place (ring_between ring from end) ≡ Some (place, ring_event_at ring off)
sought_found ring clients client from off place end before now sought early c lives wanted =
    sought.found c lives
    ∙ (found_at ring from off place end c (next_is ring from off place end sought.on_way early)
    ∙ ap (λ (b : Bool). if b then Some (place, ring_event_at ring off) else found_in c (place + 1) (ring_between ring (at (off + slot_of_sent (ring_event_at ring off)) (place + 1)) end)) wanted)

pub sought_nothing : (ring : List ℕ) (clients : List (Option Client)) (client : ℕ) (from : Position) (off place : ℕ) (end : Position) (before now : CountedBytes) → IsSought ring clients client from off place end before now → end.place ≤ place
    → (c : Client) → slot_at clients client ≡ Some c → found_in c from.place (ring_between ring from end) ≡ None
sought_nothing ring clients client from off place end before now sought late c lives =
    sought.found c lives ∙ ap (λ (ss : List Sent). found_in c place ss) (end_is ring off place end late)
