-- Each reply of a legal history is right where it came.
use Rattle.std.specs.Prelude.{◌≡◌, ◌≢◌, ℕ, ◌+◌, ◌-◌, ◌^◌, ◌<◌, ◌≤◌, ◌==◌, ◌&&◌, Bool, true, false, if◌then◌else◌, nat_le, nat_lt, IsTrue, List, [], ◌∷◌, length, take, drop, sum_by, slice_get, Option, Some, None, Result, Ok, Err, refl}
use Rattle.std.proofs.Common.{ap, sym, ◌∙◌, subst, arith, eq-eqb, le-leb}
use mathlib.Core.Logic.{dite}
use native.Mathlib.Decide.{ℕ_discrete}
use Rattle.std.proofs.Math.Logic.{⊎_elim}
use Rattle.std.proofs.lemmas.Bool.{and_parts, eqb-true, eqb-false, leb-true, ltb-true, ltb-false, cases_lt}
use Rattle.std.proofs.lemmas.List.{drop-drop}
use Rattle.std.proofs.lemmas.List.Sums.{sum_by-take-le}
use Rattle.daq_types.specs.declared.events.Event.{Event}
use Rattle.event.specs.Events.{slot_size, matches, Matches, is_reserved, event_limit}
use Rattle.buffer_core.specs.declared.gate.RunGate.{RunGate}
use Rattle.buffer_core.specs.declared.client.Request.{Request as EventRequest}
use Rattle.buffer_core.specs.declared.client.Client.{Client}
use Rattle.buffer_core.specs.declared.gate.RunGate.TheVariants.{Shut, Running, Paused}
use Rattle.buffer_core.specs.declared.replies.SendRefusal.{SendRefusal}
use Rattle.buffer_core.specs.declared.replies.SendRefusal.TheVariants.{NotRunning, BadSize, ReservedId, TooLarge, Spent, Full}
use Rattle.buffer_core.specs.declared.replies.Received.TheVariants.{Got, Empty}
use Rattle.buffer_core.specs.declared.entry.BufferEntry.{BufferEntry}
use Rattle.buffer_core.specs.declared.entry.BufferEntry.TheVariants.{Send, SendInRun, Receive}
use Rattle.buffer_core.specs.Slots.{slot_at, first_slot, some_slot}
use Rattle.buffer_core.specs.Window.{Sent, Window, opening, slot_of_sent, accepted_of, covers, wants, is_all, holds_back, owes}
use Rattle.buffer_core.specs.Calls.{IsReply, found_in, receive_reply_to, gone_of, owed_in, full_reply, room_reply, spent_reply, size_reply, id_reply, send_reply, is_running, send_in_run_reply}
use Rattle.buffer_core.specs.Histories.{IsLegal}
use Rattle.buffer_core.specs.Points.{Life, got_end, sent, count_at, life_at, request_at, IsDue, past_of}
use Rattle.buffer_core.specs.Delivered.{IsIn, IsRightGot, HasAllBelow, IsStatedRightly, HasFreeId, FitsAtAll, IsUnspent, IsTooMuch, HasWay, IsInTheWay, IsRightSend, IsRightRunSend, IsBounded, IsInOrder, IsComplete, IsHeldBack, Throughout, StaysBounded, Delivers}
use Rattle.buffer_core.specs.Runs.{begun_at, ended_at, is_paused_at, IsOpenAt, IsGateAt}
use Rattle.buffer_core.proofs.SlotLaws.{split}
use Rattle.buffer_core.proofs.Places.{get_drop, get_take, get_taken, goes, goes_much}
use Rattle.buffer_core.proofs.Numbered.{some_found, IsFirst, first_found, none_found}
use Rattle.buffer_core.proofs.Found.{IsFound, found, not_found, IsFirstOwed, owed, not_owed}
use Rattle.buffer_core.proofs.Replied.{got_reply, empty_reply, IsAdmitted, IsHeldUp}
use Rattle.buffer_core.proofs.Following.{Follows, HasAll, reads_on, owes_true, owes_next}
use Rattle.buffer_core.proofs.Linked.{window_at, WasLegal, legal_after, is_window_at, Agrees, IsLinked, linked}
use Rattle.buffer_core.proofs.Ordering.{IsOpenRun, GateFits, running_is, runs_fit}

-- a client that has a life in the history lives in the window
pub followed : (first : ℕ) (ss : List Sent) (asked : ℕ → Option EventRequest) (o : Option Client) (l : Option Life) (life : Life) → Agrees first ss asked o l → l ≡ Some life → (c : Client) × (o ≡ Some c) × Follows first ss asked c life
followed first ss asked None None life k e = absurd (cc)
followed first ss asked None (Some l) life k e = absurd k
followed first ss asked (Some c) None life k e = absurd k
followed first ss asked (Some c) (Some l) life k e =
    let same : l ≡ life = cc in
    (c, refl, subst (Follows first ss asked c) same k)

-- and the other way round
pub living : (first : ℕ) (ss : List Sent) (asked : ℕ → Option EventRequest) (o : Option Client) (l : Option Life) (c : Client) → Agrees first ss asked o l → o ≡ Some c → (life : Life) × (l ≡ Some life) × Follows first ss asked c life
living first ss asked None None c k e = absurd (cc)
living first ss asked None (Some l) c k e = absurd k
living first ss asked (Some d) None c k e = absurd k
living first ss asked (Some d) (Some l) c k e =
    let same : d ≡ c = cc in
    (l, refl, subst (λ (x : Client). Follows first ss asked x l) same k)

-- Receives.

pub got_client : (w : Window) (room place start : ℕ) (o : Option Client) → Got place start ≡ receive_reply_to w room o → (c : Client) × (s : Sent) × (o ≡ Some c) × IsFound c w.first w.kept place s × (s.start ≡ start)
got_client w room place start None e = absurd (cc)
got_client w room place start (Some c) e =
    let got = got_reply w.gate w.last room (found_in c w.first w.kept) place start e in
    (c, got.0, refl, found c w.first w.kept place got.0 got.1, got.2)

-- one of the client's requests wants the event
wanted_by : (place : ℕ) (e : Event) (c : Client) → wants place e c ≡ true → (n : ℕ) × (q : EventRequest) × (slot_at c.requests n ≡ Some q) × (q.since ≤ place) × Matches q.id q.mask e
wanted_by place e c h =
    let some = some_found (covers place e) c.requests (and_parts (nat_le c.next place) (some_slot (covers place e) c.requests) h).1 in
    let parts = and_parts (nat_le some.1.since place) (matches some.1.id some.1.mask e) some.3 in
    (some.0, some.1, some.2, leb-true some.1.since place parts.0, parts.1)

all_below : (past : List (ℕ × BufferEntry)) (client to : ℕ) (life : Life) → life_at past client ≡ Some life → HasAll (sent past) (request_at past client) life.places to → HasAllBelow past client to
all_below past client to life lives all l q n r s lives' wanted is_all less =
    let same : life ≡ l = cc (lives, lives') in
    subst (λ (x : Life). IsIn q x.places) same (all q n r s wanted.lives wanted.since wanted.is_sent wanted.matched is_all less)

pub right_got : (size : ℕ) (past : List (ℕ × BufferEntry)) → WasLegal size past → (client room place start : ℕ) → IsReply (window_at size past) (Receive client room (Got place start)) → IsRightGot past client place start × HasAllBelow past client place
right_got size past was client room place start reply =
    let w : Window = window_at size past in
    let k : IsLinked size past = linked size past was in
    let got = got_client w room place start (slot_at w.clients client) reply in
    let alive = living w.first (sent past) (request_at past client) (slot_at w.clients client) (life_at past client) got.0 (k.clients client) got.2 in
    let f : Follows w.first (sent past) (request_at past client) got.0 alive.0 = alive.2 in
    let is : IsFound got.0 w.first w.kept place got.1 = got.3 in
    let there : IsFound got.0 w.first (drop w.first (sent past)) place got.1 = subst (λ (ks : List Sent). IsFound got.0 w.first ks place got.1) k.kept is in
    let by = wanted_by place got.1.event got.0 is.wanted in
    let ahead : got.0.next ≤ place = leb-true got.0.next place (and_parts (nat_le got.0.next place) (some_slot (covers place got.1.event) got.0.requests) is.wanted).0 in (
      record {
        life = alive.0;
        number = by.0;
        request = by.1;
        event = got.1;
        lives = alive.1;
        rises = λ q old. omega (arith, f.rises q old, f.next, ahead);
        wanted = record {
          lives = sym (f.asks by.0) ∙ by.2;
          since = by.3;
          is_sent = sym (get_drop w.first (sent past) there.index place there.place_is) ∙ there.is;
          matched = by.4;
        };
        started = got.4;
      },
      all_below past client place alive.0 alive.1 (reads_on w.first (sent past) (request_at past client) got.0 alive.0 f place there.least),
    )

right_empty : (size : ℕ) (past : List (ℕ × BufferEntry)) → WasLegal size past → (client room : ℕ) (gate : RunGate) (last : ℕ) → IsReply (window_at size past) (Receive client room (Empty gate last)) → HasAllBelow past client (count_at past)
right_empty size past was client room gate last reply l q n r s lives wanted is_all less =
    let w : Window = window_at size past in
    let k : IsLinked size past = linked size past was in
    let alive = followed w.first (sent past) (request_at past client) (slot_at w.clients client) (life_at past client) l (k.clients client) lives in
    let none : found_in alive.0 w.first w.kept ≡ None = empty_reply w.gate w.last room (found_in alive.0 w.first w.kept) gate last (subst (λ (o : Option Client). Empty gate last ≡ receive_reply_to w room o) alive.1 reply) in
    let unwanted : (i p : ℕ) (x : Sent) → p ≡ w.first + i → slice_get (drop w.first (sent past)) i ≡ Some x → wants p x.event alive.0 ≡ false =
    subst (λ (ks : List Sent). (i p : ℕ) (x : Sent) → p ≡ w.first + i → slice_get ks i ≡ Some x → wants p x.event alive.0 ≡ false) k.kept (not_found alive.0 w.first w.kept none) in
    reads_on w.first (sent past) (request_at past client) alive.0 l alive.2 (count_at past) (λ i p x place_is is below. unwanted i p x place_is is) q n r s wanted.lives wanted.since wanted.is_sent wanted.matched is_all less

-- Sends.

-- one of the client's requests for all events wants the event
owed_by : (place : ℕ) (e : Event) (c : Client) → owes place e c ≡ true → (n : ℕ) × (q : EventRequest) × (slot_at c.requests n ≡ Some q) × (q.since ≤ place) × Matches q.id q.mask e × IsTrue (is_all q.kind)
owed_by place e c h =
    let some = some_found (holds_back place e) c.requests (and_parts (nat_le c.next place) (some_slot (holds_back place e) c.requests) h).1 in
    let both = and_parts (is_all some.1.kind) (covers place e some.1) some.3 in
    let parts = and_parts (nat_le some.1.since place) (matches some.1.id some.1.mask e) both.1 in
    (some.0, some.1, some.2, leb-true some.1.since place parts.0, parts.1, both.0)

-- the room that the kept events take from a place on is that of all that were sent from there on
kept_sum : (size : ℕ) (past : List (ℕ × BufferEntry)) → IsLinked size past → (index place : ℕ) → place ≡ (window_at size past).first + index → sum_by slot_of_sent (drop index (window_at size past).kept) ≡ sum_by slot_of_sent (drop place (sent past))
kept_sum size past k index place place_is =
    let w : Window = window_at size past in
    ap (λ (ks : List Sent). sum_by slot_of_sent (drop index ks)) k.kept
    ∙ (ap (sum_by slot_of_sent) (drop-drop index w.first (sent past)) ∙ ap (λ (n : ℕ). sum_by slot_of_sent (drop n (sent past))) (sym place_is))

-- an event that is due and in the way is kept, has to go, and is owed
record IsHeld (w : Window) (e : Event) (client place : ℕ) : Type 0 where
  pub index : ℕ
  pub sent : Sent
  pub reader : Client
  pub place_is : place ≡ w.first + index
  pub in_front : slice_get (take (gone_of w e) w.kept) index ≡ Some sent
  pub lives : slot_at w.clients client ≡ Some reader
  pub owed : owes place sent.event reader ≡ true

held : (size : ℕ) (past : List (ℕ × BufferEntry)) → WasLegal size past → (e : Event) (client place : ℕ) → IsDue past client place → IsTooMuch size past place e → slot_size e ≤ (window_at size past).size → IsHeld (window_at size past) e client place
held size past was e client place due much fits =
    let w : Window = window_at size past in
    let k : IsLinked size past = linked size past was in
    let alive = followed w.first (sent past) (request_at past client) (slot_at w.clients client) (life_at past client) due.life (k.clients client) due.lives in
    let f : Follows w.first (sent past) (request_at past client) alive.0 due.life = alive.2 in
    let behind : w.first ≤ place =
    ⊎_elim
    (λ (gone : place < w.first).
    let had : IsIn place due.life.places = f.complete place due.number due.request due.event due.wanted.lives due.wanted.since due.wanted.is_sent due.wanted.matched due.all (omega (arith, gone, f.next)) in
    absurd (omega (arith, f.rises place had, due.ahead)))
    (λ (there : w.first ≤ place). there)
    (cases_lt place w.first) in
    let place_is : place ≡ w.first + (place - w.first) = omega (arith, behind) in
    let kept : slice_get w.kept (place - w.first) ≡ Some due.event =
    ap (λ (ks : List Sent). slice_get ks (place - w.first)) k.kept ∙ (get_drop w.first (sent past) (place - w.first) place place_is ∙ due.wanted.is_sent) in
    let front : place - w.first < gone_of w e =
    goes_much slot_of_sent w.size (slot_size e) w.kept (place - w.first) fits (omega (arith, much, k.size_is, kept_sum size past k (place - w.first) place place_is)) in
    let next : alive.0.next ≤ place = omega (arith, f.next, behind, due.ahead) in
    record {
      index = place - w.first;
      sent = due.event;
      reader = alive.0;
      place_is = place_is;
      in_front = get_take (gone_of w e) w.kept (place - w.first) front ∙ kept;
      lives = alive.1;
      owed = owes_true place due.event.event alive.0 due.number due.request next (f.asks due.number ∙ due.wanted.lives) due.wanted.since due.wanted.matched due.all;
    }

has_way : (size : ℕ) (past : List (ℕ × BufferEntry)) → WasLegal size past → (stated : ℕ) (e : Event) (n : ℕ) → IsAdmitted (window_at size past) stated e n → HasWay size past e
has_way size past was stated e n is client place due much =
    let w : Window = window_at size past in
    let it : IsHeld w e client place = held size past was e client place due much is.taken.sendable.fits in
    let none : first_slot (owes place it.sent.event) w.clients ≡ None = not_owed w.clients w.first (take (gone_of w e) w.kept) is.free it.index place it.sent it.place_is it.in_front in
    let failed : owes place it.sent.event it.reader ≡ false = none_found (owes place it.sent.event) w.clients none client it.reader it.lives in
    cc (failed, it.owed)

not_both : (a b : Bool) → (a && b) ≡ false → a ≡ true → b ≡ true → ⊥
not_both true b e f g = cc (e, g)
not_both false b e f g = cc (f)

in_the_way : (size : ℕ) (past : List (ℕ × BufferEntry)) → WasLegal size past → (e : Event) (client place : ℕ) → IsHeldUp (window_at size past) e client place → IsInTheWay size past e client place
in_the_way size past was e client place is =
    let w : Window = window_at size past in
    let k : IsLinked size past = linked size past was in
    let gone : ℕ = gone_of w e in
    let it : IsFirstOwed w.clients w.first (take gone w.kept) client place = owed w.clients w.first (take gone w.kept) client place is.owed in
    let to : IsFirst (owes place it.sent.event) w.clients client = first_found (owes place it.sent.event) w.clients client it.to in
    let alive = living w.first (sent past) (request_at past client) (slot_at w.clients client) (life_at past client) to.member (k.clients client) to.is in
    let f : Follows w.first (sent past) (request_at past client) to.member alive.0 = alive.2 in
    let kept = get_taken gone w.kept it.index it.sent it.is in
    let is_sent : slice_get (sent past) place ≡ Some it.sent =
    sym (get_drop w.first (sent past) it.index place it.place_is) ∙ (ap (λ (ks : List Sent). slice_get ks it.index) (sym k.kept) ∙ kept.1) in
    let by = owed_by place it.sent.event to.member to.passes_it in
    let much : IsTooMuch size past place e =
    omega (arith, goes slot_of_sent w.size (slot_size e) w.kept it.index kept.0, k.size_is, kept_sum size past k it.index place it.place_is) in
    record {
      due = record {
        life = alive.0;
        number = by.0;
        request = by.1;
        event = it.sent;
        lives = alive.1;
        ahead = omega (arith, f.next, owes_next place it.sent.event to.member to.passes_it);
        wanted = record { lives = sym (f.asks by.0) ∙ by.2; since = by.3; is_sent = is_sent; matched = by.4 };
        all = by.5;
      };
      too_much = much;
      least_place = λ c q due too_much.
          ⊎_elim
          (λ (less : q < place).
          let other : IsHeld w e c q = held size past was e c q due too_much is.fits in
          let none : first_slot (owes q other.sent.event) w.clients ≡ None = it.least other.index q other.sent other.place_is other.in_front less in
          let failed : owes q other.sent.event other.reader ≡ false = none_found (owes q other.sent.event) w.clients none c other.reader other.lives in
          absurd (cc (failed, other.owed)))
          (λ (more : place ≤ q). more)
          (cases_lt q place);
      least_client = λ c due.
          ⊎_elim
          (λ (less : c < client).
          let other : IsHeld w e c place = held size past was e c place due much is.fits in
          let index_is : other.index ≡ it.index = omega (arith, other.place_is, it.place_is) in
          let there : slice_get (take gone w.kept) it.index ≡ Some other.sent = subst (λ (i : ℕ). slice_get (take gone w.kept) i ≡ Some other.sent) index_is other.in_front in
          let same : other.sent ≡ it.sent = cc (there, it.is) in
          let failed : owes place it.sent.event other.reader ≡ false = to.before c other.reader less other.lives in
          let hit : owes place it.sent.event other.reader ≡ true = subst (λ (s : Sent). owes place s.event other.reader ≡ true) same other.owed in
          absurd (cc (failed, hit)))
          (λ (more : client ≤ c). more)
          (cases_lt c client);
    }

-- The causes of refusals.

module _ (size : ℕ) (past : List (ℕ × BufferEntry)) (was : WasLegal size past) (stated : ℕ) (e : Event) where
  abbrev w : Window
  w = window_at size past

  abbrev IsRight : Result ℕ SendRefusal → Type 0
  IsRight = IsRightSend size past stated e

  full_right : (owed : Option (ℕ × ℕ)) → owed_in w.clients w.first (take (gone_of w e) w.kept) ≡ owed → IsUnspent size past stated e → IsRight (full_reply owed (accepted_of w))
  full_right None none may =
      let k : IsLinked size past = linked size past was in
      has_way size past was stated e (accepted_of w) (record {
        taken = record {
          sendable = record { stated_right = may.0.0.0.0; small = omega (arith, may.0.0.0.0, may.0.0.0.1); free = may.0.0.1; fits = omega (arith, may.0.1, k.size_is) };
          unspent = omega (arith, may.1, k.total);
        };
        free = none;
        place_is = refl;
      })
  full_right (Some owed) some may =
      let k : IsLinked size past = linked size past was in
      (may, in_the_way size past was e owed.0 owed.1 (record { fits = omega (arith, may.0.1, k.size_is); owed = some }))

  spent_right : FitsAtAll size stated e → IsRight (spent_reply w e)
  spent_right may =
      let k : IsLinked size past = linked size past was in
      split (nat_lt (2 ^ 62) (w.total + slot_size e)) (λ b. IsRight (if b then Err (Spent w.total) else room_reply w e))
      (λ is. (may, (k.total, ltb-true (2 ^ 62) (w.total + slot_size e) is)))
      (λ is. full_right (owed_in w.clients w.first (take (gone_of w e) w.kept)) refl (may, omega (arith, ltb-false (2 ^ 62) (w.total + slot_size e) is, k.total)))

  size_right : HasFreeId stated e → IsRight (size_reply w e)
  size_right may =
      let k : IsLinked size past = linked size past was in
      split (nat_lt w.size (slot_size e)) (λ b. IsRight (if b then Err (TooLarge (slot_size e) w.size) else spent_reply w e))
      (λ is. (may, (refl, (k.size_is, omega (arith, ltb-true w.size (slot_size e) is, k.size_is)))))
      (λ is. spent_right (may, omega (arith, ltb-false w.size (slot_size e) is, k.size_is)))

  id_right : IsStatedRightly stated e → IsRight (id_reply w e)
  id_right may = split (is_reserved e.id) (λ b. IsRight (if b then Err (ReservedId e.id) else size_reply w e)) (λ is. (may, (refl, is))) (λ is. size_right (may, is))

  right_send : IsRight (send_reply w stated e)
  right_send =
      split ((stated == length e.body) && nat_le stated event_limit) (λ b. IsRight (if b then id_reply w e else Err (BadSize stated (length e.body))))
      (λ is. let parts = and_parts (stated == length e.body) (nat_le stated event_limit) is in id_right (eqb-true stated (length e.body) parts.0, leb-true stated event_limit parts.1))
      (λ is. (refl, (refl, λ right. not_both (stated == length e.body) (nat_le stated event_limit) is (eq-eqb stated (length e.body) right.0) (le-leb stated event_limit right.1))))

  -- the marks tell the gate
  told_gate : (gate : RunGate) → GateFits gate (begun_at past) (ended_at past) (is_paused_at past) → IsGateAt past gate
  told_gate Shut fits = fits
  told_gate (Running run) fits = (record { from = fits.0.from; begun = fits.0.is_begun; unended = fits.0.not_ended }, fits.1)
  told_gate (Paused run) fits = (record { from = fits.0.from; begun = fits.0.is_begun; unended = fits.0.not_ended }, fits.1)

  -- a run that is open by the marks is the gate's
  no_other : (run start : ℕ) → IsOpenRun run (begun_at past) (ended_at past) → start ≢ run → IsOpenAt past start → ⊥
  no_other run start it other opened =
      let ended = it.others start opened.from other opened.begun in
      cc (ended.1, opened.unended)

  is_off : (gate : RunGate) (start : ℕ) → GateFits gate (begun_at past) (ended_at past) (is_paused_at past) → is_running gate start ≡ false → IsGateAt past (Running start) → ⊥
  is_off Shut start fits off on =
      let ended = fits start on.0.from on.0.begun in
      cc (ended.1, on.0.unended)
  is_off (Running run) start fits off on = no_other run start fits.0 (λ same. eqb-false run start off (sym same)) on.0
  is_off (Paused run) start fits off on =
      dite (ℕ_discrete start run)
      (λ same. let paused : is_paused_at past start ≡ true = subst (λ (s : ℕ). is_paused_at past s ≡ true) (sym same) fits.1 in cc (paused, on.1))
      (λ other. no_other run start fits.0 other on.0)

  in_run : (start : ℕ) → IsGateAt past (Running start) → (reply : Result ℕ SendRefusal) → IsRight reply → IsRightRunSend size past start stated e reply
  in_run start on (Ok n) right = (on, right)
  in_run start on (Err (NotRunning gate)) right = absurd right
  in_run start on (Err (BadSize said given)) right = (on, right)
  in_run start on (Err (ReservedId id)) right = (on, right)
  in_run start on (Err (TooLarge slot whole)) right = (on, right)
  in_run start on (Err (Spent total)) right = (on, right)
  in_run start on (Err (Full client place)) right = (on, right)

  right_run_send : (start : ℕ) → IsRightRunSend size past start stated e (send_in_run_reply w start stated e)
  right_run_send start =
      let fits : GateFits w.gate (begun_at past) (ended_at past) (is_paused_at past) = (runs_fit size past was).fits in
      split (is_running w.gate start) (λ b. IsRightRunSend size past start stated e (if b then send_reply w stated e else Err (NotRunning w.gate)))
      (λ is. in_run start (told_gate (Running start) (subst (λ (g : RunGate). GateFits g (begun_at past) (ended_at past) (is_paused_at past)) (running_is w.gate start is) fits)) (send_reply w stated e) right_send)
      (λ is. (told_gate w.gate fits, is_off w.gate start fits is))

-- The whole.

bounded : (size : ℕ) (past : List (ℕ × BufferEntry)) → WasLegal size past → IsBounded past
bounded size past was client life lives =
    let w : Window = window_at size past in
    let k : IsLinked size past = linked size past was in
    let alive = followed w.first (sent past) (request_at past client) (slot_at w.clients client) (life_at past client) life (k.clients client) lives in
    omega (arith, alive.2.paid, sum_by-take-le slot_of_sent (sent past) (got_end life.places), k.total, (is_window_at size past was).spent)

in_order : (size : ℕ) (past : List (ℕ × BufferEntry)) → WasLegal size past → (e : BufferEntry) → IsReply (window_at size past) e → IsInOrder past e
in_order size past was (Receive client room (Got place start)) reply = (right_got size past was client room place start reply).0
in_order size past was entry reply = tt

complete : (size : ℕ) (past : List (ℕ × BufferEntry)) → WasLegal size past → (e : BufferEntry) → IsReply (window_at size past) e → IsComplete past e
complete size past was (Receive client room (Got place start)) reply = (right_got size past was client room place start reply).1
complete size past was (Receive client room (Empty gate last)) reply = right_empty size past was client room gate last reply
complete size past was entry reply = tt

held_back : (size : ℕ) (past : List (ℕ × BufferEntry)) → WasLegal size past → (e : BufferEntry) → IsReply (window_at size past) e → IsHeldBack size past e
held_back size past was (Send stated e reply) is = subst (IsRightSend size past stated e) (sym is) (right_send size past was stated e)
held_back size past was (SendInRun start stated e reply) is = subst (IsRightRunSend size past start stated e) (sym is) (right_run_send size past was stated e start)
held_back size past was entry reply = tt

throughout : (size : ℕ) (P : List (ℕ × BufferEntry) → BufferEntry → Type 0)
    → ((past : List (ℕ × BufferEntry)) → WasLegal size past → (e : BufferEntry) → IsReply (window_at size past) e → P past e)
    → (past : List (ℕ × BufferEntry)) → WasLegal size past → Throughout P past
throughout size P each [] was = tt
throughout size P each (e ∷ past) was = (each past was.1 e.1 was.0, throughout size P each past was.1)

stays_bounded : (size : ℕ) (past : List (ℕ × BufferEntry)) → WasLegal size past → StaysBounded past
stays_bounded size [] was = tt
stays_bounded size (e ∷ past) was = (bounded size (e ∷ past) was, stays_bounded size past was.1)

pub history_delivers : (size : ℕ) (h : List (ℕ × BufferEntry)) → IsLegal (opening size) h → Delivers size h
history_delivers size h legal =
    let was : WasLegal size (past_of h) = legal_after size [] h tt legal in
    record {
      in_order = throughout size IsInOrder (in_order size) (past_of h) was;
      complete = throughout size IsComplete (complete size) (past_of h) was;
      held_back = throughout size (IsHeldBack size) (held_back size) (past_of h) was;
      bounded = stays_bounded size (past_of h) was;
    }
