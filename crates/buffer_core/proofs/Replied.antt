-- What the replies of a window say of it.
use Rattle.std.specs.Prelude.{◌≡◌, ℕ, ◌+◌, ◌^◌, ◌<◌, ◌≤◌, ◌==◌, Bool, true, false, ◌&&◌, if◌then◌else◌, nat_le, nat_lt, length, take, Option, Some, None, Result, Ok, Err, refl}
use Rattle.std.specs.Option.{ok_or}
use Rattle.std.proofs.Common.{ap, sym, ◌∙◌}
use Rattle.std.proofs.lemmas.Bool.{ltb-true, ltb-false}
use Rattle.daq_types.specs.declared.events.Event.{Event}
use Rattle.event.specs.Events.{slot_size, is_reserved, event_limit}
use Rattle.buffer_core.specs.declared.gate.RunGate.{RunGate}
use Rattle.buffer_core.specs.declared.gate.RunGate.TheVariants.{Shut, Running, Paused}
use Rattle.buffer_core.specs.declared.client.Client.{Client}
use Rattle.buffer_core.specs.declared.replies.SendRefusal.TheVariants.{NotRunning, BadSize, ReservedId, TooLarge, Spent, Full}
use Rattle.buffer_core.specs.declared.replies.MarkRefusal.TheVariants.{OldStart}
use Rattle.buffer_core.specs.declared.replies.RequestRefusal.TheVariants.{NoRequestSlot}
use Rattle.buffer_core.specs.declared.replies.Received.TheVariants.{Got, Empty, SmallBuf}
use Rattle.buffer_core.specs.Slots.{free_slot}
use Rattle.buffer_core.specs.Window.{Sent, Window, accepted_of}
use Rattle.buffer_core.specs.Calls.{request_reply_to, found_reply, send_reply, id_reply, size_reply, spent_reply, room_reply, full_reply, owed_in, gone_of, is_running, mark_reply, begin_reply_at, send_in_run_reply}
use Rattle.buffer_core.proofs.SlotLaws.{split}
use Rattle.buffer_core.proofs.WindowLaws.{room_reply_is}
use Rattle.buffer_core.proofs.WindowKept.{IsTaken, sent_taken}

-- Clients and receives.

pub number_given : {A E : Type 0} (o : Option A) (refusal : E) (n : A) → Ok n ≡ ok_or o refusal → o ≡ Some n
number_given None refusal n e = absurd (cc)
number_given (Some m) refusal n e = let same : m ≡ n = cc in ap (λ k. Some k) same

pub request_given : (o : Option Client) (n : ℕ) → Ok n ≡ request_reply_to o → (c : Client) × (o ≡ Some c) × (free_slot c.requests ≡ Some n)
request_given None n e = absurd (cc)
request_given (Some c) n e = (c, refl, number_given (free_slot c.requests) NoRequestSlot n e)

pub got_reply : (gate : RunGate) (last room : ℕ) (found : Option (ℕ × Sent)) (place start : ℕ) → Got place start ≡ found_reply gate last room found → (s : Sent) × (found ≡ Some (place, s)) × (s.start ≡ start)
got_reply gate last room None place start e = absurd (cc)
got_reply gate last room (Some f) place start e =
    split (nat_le (length f.1.event.body) room) (λ b. Got place start ≡ (if b then Got f.0 f.1.start else SmallBuf (length f.1.event.body)) → (s : Sent) × (Some f ≡ Some (place, s)) × (s.start ≡ start))
    (λ h got.
    let place_is : f.0 ≡ place = cc (got) in
    let start_is : f.1.start ≡ start = cc (got) in
    (f.1, ap (λ (n : ℕ). Some (n, f.1)) place_is, start_is))
    (λ h small. absurd (cc (small)))
    e

pub empty_reply : (gate : RunGate) (last room : ℕ) (found : Option (ℕ × Sent)) (told : RunGate) (told_last : ℕ) → Empty told told_last ≡ found_reply gate last room found → found ≡ None
empty_reply gate last room None told told_last e = refl
empty_reply gate last room (Some f) told told_last e =
    split (nat_le (length f.1.event.body) room) (λ b. Empty told told_last ≡ (if b then Got f.0 f.1.start else SmallBuf (length f.1.event.body)) → Some f ≡ None)
    (λ h got. absurd (cc (got)))
    (λ h small. absurd (cc (small)))
    e

-- Sends.

-- a refusal that is not this one did not come
unrefused : {A E : Type 0} (b : Bool) (refusal : E) (rest : Result A E) (x : E) → (refusal ≡ x → ⊥) → (if b then Err refusal else rest) ≡ Err x → (b ≡ false) × (rest ≡ Err x)
unrefused true refusal rest x other e = absurd (other (cc))
unrefused false refusal rest x other e = (refl, e)

passed : {A E : Type 0} (b : Bool) (refusal : E) (rest : Result A E) (x : E) → (refusal ≡ x → ⊥) → (if b then rest else Err refusal) ≡ Err x → (b ≡ true) × (rest ≡ Err x)
passed true refusal rest x other e = (refl, e)
passed false refusal rest x other e = absurd (other (cc))

accepted_since : {A E : Type 0} (b : Bool) (refusal : E) (rest : Result A E) (n : A) → (if b then rest else Err refusal) ≡ Ok n → (b ≡ true) × (rest ≡ Ok n)
accepted_since true refusal rest n e = (refl, e)
accepted_since false refusal rest n e = absurd (cc)

full_ok : (o : Option (ℕ × ℕ)) (accepted n : ℕ) → full_reply o accepted ≡ Ok n → (o ≡ None) × (n ≡ accepted)
full_ok None accepted n e = (refl, cc)
full_ok (Some owed) accepted n e = absurd (cc)

full_is : (o : Option (ℕ × ℕ)) (accepted client place : ℕ) → full_reply o accepted ≡ Err (Full client place) → o ≡ Some (client, place)
full_is None accepted client place e = absurd (cc)
full_is (Some owed) accepted client place e =
    let client_is : owed.0 ≡ client = cc in
    let place_is : owed.1 ≡ place = cc in
    ap (λ (n : ℕ). Some (n, owed.1)) client_is ∙ ap (λ (n : ℕ). Some (client, n)) place_is

-- an accepted send: no event that has to go is owed
pub record IsAdmitted (w : Window) (stated : ℕ) (e : Event) (place : ℕ) : Type 0 where
  pub taken : IsTaken w stated e
  pub free : owed_in w.clients w.first (take (gone_of w e) w.kept) ≡ None
  pub place_is : place ≡ accepted_of w

pub admitted : (w : Window) (stated : ℕ) (e : Event) (n : ℕ) → send_reply w stated e ≡ Ok n → IsAdmitted w stated e n
admitted w stated e n ok =
    let taken : IsTaken w stated e = sent_taken w stated e n ok in
    let room : full_reply (owed_in w.clients w.first (take (gone_of w e) w.kept)) (accepted_of w) ≡ Ok n = sym (room_reply_is w stated e taken.sendable taken.unspent) ∙ ok in
    let parts = full_ok (owed_in w.clients w.first (take (gone_of w e) w.kept)) (accepted_of w) n room in
    record { taken = taken; free = parts.0; place_is = parts.1 }

-- a send that is refused as full: the event would fit into the buffer, and this is the first owed one of those that
-- have to go
pub record IsHeldUp (w : Window) (e : Event) (client place : ℕ) : Type 0 where
  pub fits : slot_size e ≤ w.size
  pub owed : owed_in w.clients w.first (take (gone_of w e) w.kept) ≡ Some (client, place)

pub held_up : (w : Window) (stated : ℕ) (e : Event) (client place : ℕ) → send_reply w stated e ≡ Err (Full client place) → IsHeldUp w e client place
held_up w stated e client place full =
    let sized = passed ((stated == length e.body) && nat_le stated event_limit) (BadSize stated (length e.body)) (id_reply w e) (Full client place) (λ k. cc (k)) full in
    let free = unrefused (is_reserved e.id) (ReservedId e.id) (size_reply w e) (Full client place) (λ k. cc (k)) sized.1 in
    let fits = unrefused (nat_lt w.size (slot_size e)) (TooLarge (slot_size e) w.size) (spent_reply w e) (Full client place) (λ k. cc (k)) free.1 in
    let unspent = unrefused (nat_lt (2 ^ 62) (w.total + slot_size e)) (Spent w.total) (room_reply w e) (Full client place) (λ k. cc (k)) fits.1 in
    record {
      fits = ltb-false w.size (slot_size e) fits.0;
      owed = full_is (owed_in w.clients w.first (take (gone_of w e) w.kept)) (accepted_of w) client place unspent.1;
    }

pub run_admitted : (w : Window) (start stated : ℕ) (e : Event) (n : ℕ) → send_in_run_reply w start stated e ≡ Ok n → (is_running w.gate start ≡ true) × IsAdmitted w stated e n
run_admitted w start stated e n ok =
    let runs = accepted_since (is_running w.gate start) (NotRunning w.gate) (send_reply w stated e) n ok in
    (runs.0, admitted w stated e n runs.1)

pub run_held_up : (w : Window) (start stated : ℕ) (e : Event) (client place : ℕ) → send_in_run_reply w start stated e ≡ Err (Full client place) → IsHeldUp w e client place
run_held_up w start stated e client place full =
    held_up w stated e client place (passed (is_running w.gate start) (NotRunning w.gate) (send_reply w stated e) (Full client place) (λ k. cc (k)) full).1

-- Marks.

pub mark_set : (right : Bool) (w : Window) (n : ℕ) → Ok n ≡ mark_reply right w → (right ≡ true) × (n ≡ accepted_of w)
mark_set true w n e = (refl, cc)
mark_set false w n e = absurd (cc)

-- a run that begins: no other is on, and its start number is above the last
pub record IsBegun (gate : RunGate) (last start accepted n : ℕ) : Type 0 where
  pub shut : gate ≡ Shut
  pub above : last < start
  pub place_is : n ≡ accepted

pub run_begun : (gate : RunGate) (last start accepted n : ℕ) → Ok n ≡ begin_reply_at gate last start accepted → IsBegun gate last start accepted n
run_begun Shut last start accepted n ok =
    split (nat_lt last start) (λ b. nat_lt last start ≡ b → Ok n ≡ (if b then Ok accepted else Err (OldStart last)) → IsBegun Shut last start accepted n)
    (λ h above e. record { shut = refl; above = ltb-true last start above; place_is = cc (e) })
    (λ h old e. absurd (cc (e)))
    refl ok
run_begun (Running s) last start accepted n ok = absurd (cc)
run_begun (Paused s) last start accepted n ok = absurd (cc)
