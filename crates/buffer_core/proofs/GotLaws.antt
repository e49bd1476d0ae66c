-- What a client gets, over all calls: its slots are never more than those of all events that were ever accepted.
use Rattle.std.specs.Prelude.{◌≡◌, ℕ, zero, suc, ◌+◌, ◌-◌, ◌^◌, ◌≤◌, ◌==◌, Bool, true, false, ◌&&◌, if◌then◌else◌, nat_le, List, [], ◌∷◌, ◌++◌, length, drop, sum_by, slice_get, slice_set, Option, Some, None, unwrap_or, Ok, Err, refl}
use Rattle.std.specs.Option.{option_map}
use Rattle.std.proofs.Common.{ap, sym, subst, arith}
use Rattle.std.proofs.lemmas.Bool.{eqb-true, eqb-false, leb-true}
use Rattle.std.proofs.lemmas.List.{drop-drop}
use Rattle.std.proofs.lemmas.List.Sums.{sum_by-cons, sum_by_push, sum_by-take-drop}
use Rattle.daq_types.specs.declared.events.Event.{Event}
use Rattle.event.specs.Events.{slot_size}
use Rattle.event.specs.Held.{blank_event}
use Rattle.buffer_core.specs.declared.client.Request.{Request as EventRequest}
use Rattle.buffer_core.specs.declared.client.Client.{Client}
use Rattle.buffer_core.specs.declared.replies.Received.TheVariants.{Got, Empty, NoClient as NoReader, SmallBuf}
use Rattle.buffer_core.specs.declared.entry.BufferEntry.{BufferEntry}
use Rattle.buffer_core.specs.declared.entry.BufferEntry.TheVariants.{Attach, Detach, Request, Cancel, Send, SendInRun, Receive, Begin, Pause, Resume, End, Level, Accepted}
use Rattle.buffer_core.specs.Slots.{slot_at, change_slot, change_all, some_slot}
use Rattle.buffer_core.proofs.SlotLaws.{split, slot_change_all, slot_change_same, slot_change_other}
use Rattle.buffer_core.specs.Window.{Sent, Window, slot_of_sent, accepted_of, kept_at, wants, covers, level_of, IsWindow, StandsAt}
use Rattle.buffer_core.specs.Calls.{IsReply, window_after, with_request, going_on, pushed, joined, after_send, gone_of, found_in, receive_reply_to}
use Rattle.buffer_core.specs.Histories.{IsLegal, replay}
use Rattle.buffer_core.proofs.WindowLaws.{found_stands, found_kept}
use Rattle.buffer_core.proofs.WindowKept.{found_got}
use Rattle.buffer_core.specs.Ports.{GotEvent, slots_got}
use Rattle.buffer_core.specs.CallersView.{given_by, given_in}

-- Sums of the rest of a list.

drop_less : (n m : ℕ) (ss : List Sent) → n ≤ m → sum_by slot_of_sent (drop m ss) ≤ sum_by slot_of_sent (drop n ss)
drop_less zero m ss h = omega (arith, sum_by-take-drop slot_of_sent ss m)
drop_less (suc n) zero ss h = absurd (omega (arith, h))
drop_less (suc n) (suc m) [] h = omega arith
drop_less (suc n) (suc m) (s ∷ ss) h = drop_less n m ss (omega (arith, h))

drop_end : (n : ℕ) (ss : List Sent) → length ss ≤ n → sum_by slot_of_sent (drop n ss) ≡ 0
drop_end zero [] h = refl
drop_end zero (s ∷ ss) h = absurd (omega (arith, h))
drop_end (suc n) [] h = refl
drop_end (suc n) (s ∷ ss) h = drop_end n ss (omega (arith, h))

drop_push : (n : ℕ) (ss : List Sent) (s : Sent) → sum_by slot_of_sent (drop n (ss ++ s ∷ [])) ≤ sum_by slot_of_sent (drop n ss) + slot_of_sent s
drop_push zero ss s = omega (arith, sum_by_push slot_of_sent ss s)
drop_push (suc n) [] s = omega (arith, drop_less zero n [] (omega arith))
drop_push (suc n) (x ∷ xs) s = drop_push n xs s

drop_at : (i : ℕ) (ss : List Sent) (s : Sent) → slice_get ss i ≡ Some s → sum_by slot_of_sent (drop i ss) ≡ slot_of_sent s + sum_by slot_of_sent (drop (suc i) ss)
drop_at i [] s e = absurd (cc)
drop_at zero (x ∷ xs) s e =
    let same : x ≡ s = cc in
    omega (arith, sum_by-cons slot_of_sent x xs, ap slot_of_sent same)
drop_at (suc i) (x ∷ xs) s e = drop_at i xs s e

-- What a client has yet to come to.

-- the slots of the kept events that the client has not come to
abbrev pub ahead_of : (first : ℕ) → List Sent → Option Client → ℕ
ahead_of first kept None = 0
ahead_of first kept (Some c) = sum_by slot_of_sent (drop (c.next - first) kept)

abbrev pub ahead : Window → (client : ℕ) → ℕ
ahead w client = ahead_of w.first w.kept (slot_at w.clients client)

-- one place gets another member
pub set_either : {X : Type 0} (P : Option X → Type 0) (xs : List (Option X)) (n m : ℕ) (o : Option X) → (m ≡ n → P o) → P (slot_at xs m) → P (slot_at (slice_set xs n o) m)
set_either P [] zero m o here there = there
set_either P [] (suc n) m o here there = there
set_either P (x ∷ xs) zero zero o here there = here refl
set_either P (x ∷ xs) zero (suc m) o here there = there
set_either P (x ∷ xs) (suc n) zero o here there = there
set_either P (x ∷ xs) (suc n) (suc m) o here there = set_either P xs n m o (λ e. here (ap (λ (k : ℕ). suc k) e)) there

-- a client that goes on at the end has nothing before it
ahead_end : (first : ℕ) (kept : List Sent) (o : Option Client) → ahead_of first kept (option_map (going_on (first + length kept)) o) ≡ 0
ahead_end first kept None = refl
ahead_end first kept (Some c) = drop_end (first + length kept - first) kept (omega arith)

ahead_with : (first : ℕ) (kept : List Sent) (n : ℕ) (q : Option EventRequest) (o : Option Client) → ahead_of first kept (option_map (with_request n q) o) ≡ ahead_of first kept o
ahead_with first kept n q None = refl
ahead_with first kept n q (Some c) = refl

ahead_pushed : (first gone : ℕ) (kept : List Sent) (s : Sent) (o : Option Client)
    → ahead_of (first + gone) (drop gone kept ++ s ∷ []) (option_map (pushed (first + gone)) o) ≤ ahead_of first kept o + slot_of_sent s
ahead_pushed first gone kept s None = omega arith
ahead_pushed first gone kept s (Some c) =
    let k : ℕ = (pushed (first + gone) c).next - (first + gone) in
    let more : c.next - first ≤ gone + k = omega arith in
    let both : sum_by slot_of_sent (drop k (drop gone kept)) ≡ sum_by slot_of_sent (drop (gone + k) kept) = ap (λ (ss : List Sent). sum_by slot_of_sent ss) (drop-drop k gone kept) in
    omega (arith, drop_push k (drop gone kept) s, both, drop_less (c.next - first) (gone + k) kept more)

-- no client has more before it than what is kept
ahead_within : (w : Window) (client : ℕ) (o : Option Client) → ahead_of w.first w.kept o ≤ level_of w
ahead_within w client None = omega arith
ahead_within w client (Some c) = drop_less 0 (c.next - w.first) w.kept (omega arith)

-- Single calls.

-- what the client gets by the call, and what it has before it afterwards, come from what it had before it and from what is
-- new
abbrev pub Pays : Window → (client : ℕ) → BufferEntry → Type 0
Pays w client entry = slots_got client (given_by w entry) + ahead (window_after w entry) client + w.total ≤ ahead w client + (window_after w entry).total

pays_set : (w : Window) (client n : ℕ) (o : Option Client) → (client ≡ n → ahead_of w.first w.kept o ≤ ahead w client)
    → ahead_of w.first w.kept (slot_at (slice_set w.clients n o) client) ≤ ahead w client
pays_set w client n o here = set_either (λ (x : Option Client). ahead_of w.first w.kept x ≤ ahead w client) w.clients n client o here (omega arith)

pays_change : (w : Window) (client n : ℕ) (f : Client → Client) → ((o : Option Client) → ahead_of w.first w.kept (option_map f o) ≤ ahead_of w.first w.kept o)
    → ahead_of w.first w.kept (slot_at (change_slot f w.clients n) client) ≤ ahead w client
pays_change w client n f less =
    pays_set w client n (option_map f (slot_at w.clients n))
    (λ e. subst (λ (k : ℕ). ahead_of w.first w.kept (option_map f (slot_at w.clients k)) ≤ ahead w client) e (less (slot_at w.clients client)))

pays_send : (w : Window) (client start : ℕ) (e : Event) → ahead (after_send w start e) client + w.total ≤ ahead w client + (after_send w start e).total
pays_send w client start e =
    let s : Sent = record { event = e; start = start } in
    let gone : ℕ = gone_of w e in
    let here : ahead_of (w.first + gone) (drop gone w.kept ++ s ∷ []) (slot_at (change_all (pushed (w.first + gone)) w.clients) client) ≤ ahead w client + slot_size e =
    subst (λ (o : Option Client). ahead_of (w.first + gone) (drop gone w.kept ++ s ∷ []) o ≤ ahead w client + slot_size e) (sym (slot_change_all (pushed (w.first + gone)) w.clients client))
    (ahead_pushed w.first gone w.kept s (slot_at w.clients client)) in
    omega (arith, here)

both_true : (a b : Bool) → (a && b) ≡ true → a ≡ true
both_true true b e = refl
both_true false b e = absurd (cc)

found_next : (c : Client) (first : ℕ) (ss : List Sent) (place : ℕ) (s : Sent) → found_in c first ss ≡ Some (place, s) → c.next ≤ place
found_next c first [] place s e = absurd (cc)
found_next c first (x ∷ xs) place s e =
    split (wants first x.event c) (λ b. wants first x.event c ≡ b → (if b then Some (first, x) else found_in c (suc first) xs) ≡ Some (place, s) → c.next ≤ place)
    (λ h wanted here.
    let place_is : first ≡ place = ap (λ (o : Option (ℕ × Sent)). (unwrap_or o (first, x)).0) here in
    omega (arith, place_is, leb-true c.next first (both_true (nat_le c.next first) (some_slot (covers first x.event) c.requests) wanted)))
    (λ h missed later. found_next c (suc first) xs place s later)
    refl e

-- the event that was got, and where the client stood
pub record IsGot (w : Window) (place : ℕ) (o : Option Client) : Type 0 where
  pub sent : Sent
  pub reader : Client
  pub lives : o ≡ Some reader
  pub behind : reader.next ≤ place
  pub kept : kept_at w place ≡ Some sent
  pub index : ℕ
  pub place_is : place ≡ w.first + index
  pub is : slice_get w.kept index ≡ Some sent

pub got_is : (w : Window) (room : ℕ) (o : Option Client) (place start : ℕ) → Got place start ≡ receive_reply_to w room o → IsGot w place o
got_is w room None place start e = absurd (cc)
got_is w room (Some c) place start e =
    let found = found_got w.gate w.last room (found_in c w.first w.kept) place start e in
    let stands : StandsAt w.kept w.first place found.0 = found_stands c w.first w.kept place found.0 found.1 in
    record {
      sent = found.0;
      reader = c;
      lives = refl;
      behind = found_next c w.first w.kept place found.0 found.1;
      kept = found_kept w c place found.0 found.1;
      index = stands.index;
      place_is = stands.place_is;
      is = stands.is;
    }

-- the event that is given is the kept one of its place
pub given_is : (w : Window) (client room place start : ℕ) (s : Sent) → kept_at w place ≡ Some s
    → given_by w (Receive client room (Got place start)) ≡ record { client = client; place = place; start = start; event = s.event } ∷ []
given_is w client room place start s kept =
    ap (λ (o : Option Sent). record { client = client; place = place; start = start; event = unwrap_or (option_map (λ (x : Sent). x.event) o) blank_event } ∷ []) kept

pays_got : (w : Window) (client by room place start : ℕ) → Got place start ≡ receive_reply_to w room (slot_at w.clients by) → Pays w client (Receive by room (Got place start))
pays_got w client by room place start reply =
    let got : IsGot w place (slot_at w.clients by) = got_is w room (slot_at w.clients by) place start reply in
    let slot : ℕ = slot_of_sent got.sent in
    let given : given_by w (Receive by room (Got place start)) ≡ record { client = by; place = place; start = start; event = got.sent.event } ∷ [] = given_is w by room place start got.sent got.kept in
    let slots : slots_got client (given_by w (Receive by room (Got place start))) ≡ (if by == client then slot else 0) + 0 = ap (slots_got client) given in
    let rest : ℕ = sum_by slot_of_sent (drop (place + 1 - w.first) w.kept) in
    let next_is : place + 1 - w.first ≡ suc got.index = omega (arith, got.place_is) in
    let rest_is : rest ≡ sum_by slot_of_sent (drop (suc got.index) w.kept) = ap (λ (n : ℕ). sum_by slot_of_sent (drop n w.kept)) next_is in
    split (by == client) (λ b. (by == client) ≡ b → slots_got client (given_by w (Receive by room (Got place start))) ≡ (if b then slot else 0) + 0 → Pays w client (Receive by room (Got place start)))
    (λ h same paid.
    let is_by : by ≡ client = eqb-true by client same in
    let had : ahead w by ≡ sum_by slot_of_sent (drop (got.reader.next - w.first) w.kept) = ap (ahead_of w.first w.kept) got.lives in
    let has : ahead_of w.first w.kept (slot_at (change_slot (going_on (place + 1)) w.clients by) by) ≡ rest =
    ap (ahead_of w.first w.kept) (slot_change_same (going_on (place + 1)) w.clients by got.reader got.lives) in
    let less : got.reader.next - w.first ≤ got.index = omega (arith, got.behind, got.place_is) in
    omega (
      arith,
      paid,
      subst (λ (n : ℕ). ahead w n ≡ sum_by slot_of_sent (drop (got.reader.next - w.first) w.kept)) is_by had,
      subst (λ (n : ℕ). ahead_of w.first w.kept (slot_at (change_slot (going_on (place + 1)) w.clients by) n) ≡ rest) is_by has,
      rest_is,
      drop_at got.index w.kept got.sent got.is,
      drop_less (got.reader.next - w.first) got.index w.kept less,
    ))
    (λ h other paid.
    let has : ahead_of w.first w.kept (slot_at (change_slot (going_on (place + 1)) w.clients by) client) ≡ ahead w client =
    ap (ahead_of w.first w.kept) (slot_change_other (going_on (place + 1)) w.clients by client (λ e. eqb-false by client other (sym e))) in
    omega (arith, paid, has))
    refl slots

-- the window after any call
pub pays : (w : Window) (client : ℕ) (entry : BufferEntry) → IsReply w entry → Pays w client entry
pays w client (Attach name (Ok n)) reply =
    let less = pays_set w client n (Some (joined name (accepted_of w))) (λ e. omega (arith, drop_end (accepted_of w - w.first) w.kept (omega arith))) in
    omega (arith, less)
pays w client (Attach name (Err r)) reply = omega arith
pays w client (Detach by (Ok u)) reply = omega (arith, pays_set w client by None (λ e. omega arith))
pays w client (Detach by (Err r)) reply = omega arith
pays w client (Request by id mask kind (Ok n)) reply =
    let q : EventRequest = record { id = id; mask = mask; kind = kind; since = accepted_of w } in
    omega (arith, pays_change w client by (with_request n (Some q)) (λ o. omega (arith, ahead_with w.first w.kept n (Some q) o)))
pays w client (Request by id mask kind (Err r)) reply = omega arith
pays w client (Cancel by request (Ok u)) reply = omega (arith, pays_change w client by (with_request request None) (λ o. omega (arith, ahead_with w.first w.kept request None o)))
pays w client (Cancel by request (Err r)) reply = omega arith
pays w client (Send stated e (Ok n)) reply = omega (arith, pays_send w client 0 e)
pays w client (Send stated e (Err r)) reply = omega arith
pays w client (SendInRun start stated e (Ok n)) reply = omega (arith, pays_send w client start e)
pays w client (SendInRun start stated e (Err r)) reply = omega arith
pays w client (Receive by room (Got place start)) reply = pays_got w client by room place start reply
pays w client (Receive by room (Empty gate last)) reply =
    omega (arith, pays_change w client by (going_on (accepted_of w)) (λ o. omega (arith, ahead_end w.first w.kept o)))
pays w client (Receive by room NoReader) reply = omega arith
pays w client (Receive by room (SmallBuf need)) reply = omega arith
pays w client (Begin start (Ok n)) reply = omega arith
pays w client (Begin start (Err r)) reply = omega arith
pays w client (Pause start (Ok n)) reply = omega arith
pays w client (Pause start (Err r)) reply = omega arith
pays w client (Resume start (Ok n)) reply = omega arith
pays w client (Resume start (Err r)) reply = omega arith
pays w client (End start (Ok n)) reply = omega arith
pays w client (End start (Err r)) reply = omega arith
pays w client (Level reply) is = omega arith
pays w client (Accepted reply) is = omega arith

-- Whole histories.

slots_got-append : (client : ℕ) (xs ys : List GotEvent) → slots_got client (xs ++ ys) ≡ slots_got client xs + slots_got client ys
slots_got-append client [] ys = omega arith
slots_got-append client (x ∷ xs) ys = omega (arith, slots_got-append client xs ys)

slots_own : (client : ℕ) (b : Bool) (xs : List GotEvent) → slots_got client (if b then xs else []) ≤ slots_got client xs
slots_own client true xs = omega arith
slots_own client false xs = omega arith

paid_in : (by client : ℕ) (w : Window) (h : List (ℕ × BufferEntry)) → IsLegal w h → slots_got client (given_in by w h) + ahead (replay w h) client + w.total ≤ ahead w client + (replay w h).total
paid_in by client w [] legal = omega arith
paid_in by client w (e ∷ es) legal =
    let w' : Window = window_after w e.1 in
    let first : List GotEvent = if e.0 == by then given_by w e.1 else [] in
    let step : Pays w client e.1 = pays w client e.1 legal.0 in
    let rest = paid_in by client w' es legal.1 in
    let sum : slots_got client (first ++ given_in by w' es) ≡ slots_got client first + slots_got client (given_in by w' es) = slots_got-append client first (given_in by w' es) in
    omega (arith, step, rest, sum, slots_own client (e.0 == by) (given_by w e.1))

-- over all calls, the slots of the events that one client got are together at most 2^62
pub slots_few : (by client : ℕ) (w : Window) (h : List (ℕ × BufferEntry)) → IsWindow w → IsLegal w h → IsWindow (replay w h) → slots_got client (given_in by w h) ≤ 2 ^ 62
slots_few by client w h is legal after =
    omega (arith, paid_in by client w h legal, ahead_within w client (slot_at w.clients client), is.level, after.spent)
