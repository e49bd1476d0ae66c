-- What holds in every window holds in the opening one, and each call keeps it.
use Rattle.std.specs.Prelude.{◌≡◌, ℕ, zero, suc, ◌+◌, ◌^◌, ◌<◌, ◌≤◌, ◌==◌, Bool, true, false, ◌&&◌, if◌then◌else◌, nat_le, nat_lt, List, [], ◌∷◌, ◌++◌, length, drop, sum_by, slice_get, slice_set, Option, Some, None, Result, Ok, Err, refl}
use Rattle.std.specs.Option.{option_map}
use Rattle.std.proofs.Common.{ap, sym, ◌∙◌, subst, arith, length-append, length-set}
use Rattle.std.proofs.lemmas.Bool.{eqb-true, eqb-false, leb-true, ltb-true, ltb-false}
use Rattle.std.proofs.lemmas.List.{length-drop, length-map}
use Rattle.std.proofs.lemmas.List.Sums.{sum_by_push, sum_by-take-drop}
use Rattle.daq_types.specs.declared.events.Event.{Event}
use Rattle.event.specs.Events.{slot_size, is_reserved, event_limit}
use Rattle.buffer_core.specs.declared.gate.RunGate.{RunGate}
use Rattle.buffer_core.specs.declared.gate.RunGate.TheVariants.{Shut, Running, Paused}
use Rattle.buffer_core.specs.declared.client.Request.{Request as EventRequest}
use Rattle.buffer_core.specs.declared.client.Client.{Client}
use Rattle.buffer_core.specs.declared.replies.SendRefusal.TheVariants.{NotRunning, BadSize, ReservedId, TooLarge, Spent}
use Rattle.buffer_core.specs.declared.replies.MarkRefusal.TheVariants.{OldStart, WrongGate}
use Rattle.buffer_core.specs.declared.replies.Received.TheVariants.{Got, Empty, NoClient as NoReader, SmallBuf}
use Rattle.buffer_core.specs.declared.entry.BufferEntry.{BufferEntry}
use Rattle.buffer_core.specs.declared.entry.BufferEntry.TheVariants.{Attach, Detach, Request, Cancel, Send, SendInRun, Receive, Begin, Pause, Resume, End, Level, Accepted}
use Rattle.buffer_core.specs.Slots.{slot_at, change_slot, change_all}
use Rattle.buffer_core.specs.Window.{Sent, Window, opening, slot_of_sent, accepted_of, IsLast, IsKeepable, IsClient, IsWindow, StandsAt}
use Rattle.buffer_core.specs.Calls.{IsReply, window_after, joined, with_request, going_on, pushed, send_reply, id_reply, size_reply, spent_reply, room_reply, is_running, is_paused, mark_reply, begin_reply_at, gone_of, after_send, found_in, found_reply, receive_reply_to, with_clients, with_gate}
use Rattle.buffer_core.proofs.SlotLaws.{split, slot_set_same, slot_set_other, slot_within, slot_change_all}
use Rattle.buffer_core.proofs.WindowLaws.{to_drop_fits, to_drop_within, slot_cover, IsSendable, found_stands}
use Rattle.buffer_core.proofs.OpeningSlots.{no_client_at, length-no_clients, length-no_requests, no_request_at}

-- Facts of all members of a list of numbered places.

abbrev pub AllSlots : {X : Type 0} → (X → Type 0) → List (Option X) → Type 0
AllSlots {X} P xs = (n : ℕ) (x : X) → slot_at xs n ≡ Some x → P x

module _ {X : Type 0} where
  -- one place gets another member
  slots_set : (P : X → Type 0) (xs : List (Option X)) (n : ℕ) (o : Option X) → AllSlots P xs → ((x : X) → o ≡ Some x → P x) → AllSlots P (slice_set xs n o)
  slots_set P xs n o all here m y e =
      split (m == n) (λ b. (m == n) ≡ b → P y)
      (λ h same.
      let is_n : m ≡ n = eqb-true m n same in
      let within : n < length xs = omega (arith, is_n, slot_within (slice_set xs n o) m y e, length-set xs n o) in
      here y (sym (slot_set_same xs n o within) ∙ subst (λ (k : ℕ). slot_at (slice_set xs n o) k ≡ Some y) is_n e))
      (λ h other. all m y (sym (slot_set_other xs n m o (eqb-false m n other)) ∙ e))
      refl

  mapped : (f : X → X) (o : Option X) (y : X) → option_map f o ≡ Some y → (x : X) × (o ≡ Some x) × (f x ≡ y)
  mapped f None y e = absurd (cc)
  mapped f (Some x) y e = (x, refl, cc)

  slots_change : (P : X → Type 0) (f : X → X) (xs : List (Option X)) (n : ℕ) → AllSlots P xs → ((x : X) → slot_at xs n ≡ Some x → P x → P (f x)) → AllSlots P (change_slot f xs n)
  slots_change P f xs n all here =
      slots_set P xs n (option_map f (slot_at xs n)) all (λ y e.
      let from = mapped f (slot_at xs n) y e in
      subst P from.2 (here from.0 from.1 (all n from.0 from.1)))

  slots_change_all : (P Q : X → Type 0) (f : X → X) (xs : List (Option X)) → AllSlots P xs → ((x : X) → P x → Q (f x)) → AllSlots Q (change_all f xs)
  slots_change_all P Q f xs all here m y e =
      let from = mapped f (slot_at xs m) y (sym (slot_change_all f xs m) ∙ e) in
      subst Q from.2 (here from.0 (all m from.0 from.1))

-- Facts of all elements of a list.

abbrev pub AllGet : {X : Type 0} → (X → Type 0) → List X → Type 0
AllGet {X} P xs = (i : ℕ) (x : X) → slice_get xs i ≡ Some x → P x

module _ {X : Type 0} where
  get_drop : (P : X → Type 0) (n : ℕ) (xs : List X) → AllGet P xs → AllGet P (drop n xs)
  get_drop P zero xs all = all
  get_drop P (suc n) [] all = all
  get_drop P (suc n) (x ∷ xs) all = get_drop P n xs (λ i y e. all (suc i) y e)

  get_push : (P : X → Type 0) (xs : List X) (x : X) → AllGet P xs → P x → AllGet P (xs ++ x ∷ [])
  get_push P [] x all here zero y e = subst P (cc) here
  get_push P [] x all here (suc i) y e = absurd (cc)
  get_push P (z ∷ zs) x all here zero y e = all zero y e
  get_push P (z ∷ zs) x all here (suc i) y e = get_push P zs x (λ j u k. all (suc j) u k) here i y e

  get_within : (xs : List X) (i : ℕ) (x : X) → slice_get xs i ≡ Some x → i < length xs
  get_within [] i x e = absurd (cc)
  get_within (y ∷ ys) zero x e = omega arith
  get_within (y ∷ ys) (suc i) x e = omega (arith, get_within ys i x e)

-- What accepted replies say.

-- the place follows from a refusal that did not come
branch : {A E : Type 0} (b : Bool) (refusal : E) (rest : Result A E) (n : A) → (if b then Err refusal else rest) ≡ Ok n → (b ≡ false) × (rest ≡ Ok n)
branch true refusal rest n e = absurd (cc)
branch false refusal rest n e = (refl, e)

passes : {A E : Type 0} (b : Bool) (refusal : E) (rest : Result A E) (n : A) → (if b then rest else Err refusal) ≡ Ok n → (b ≡ true) × (rest ≡ Ok n)
passes true refusal rest n e = (refl, e)
passes false refusal rest n e = absurd (cc)

both : (a b : Bool) → (a && b) ≡ true → (a ≡ true) × (b ≡ true)
both true b e = (refl, e)
both false b e = absurd (cc)

-- an accepted event was sent rightly, and the sum of all slots stays below 2^62
pub record IsTaken (w : Window) (stated : ℕ) (e : Event) : Type 0 where
  pub sendable : IsSendable w stated e
  pub unspent : w.total + slot_size e ≤ 2 ^ 62

pub sent_taken : (w : Window) (stated : ℕ) (e : Event) (n : ℕ) → send_reply w stated e ≡ Ok n → IsTaken w stated e
sent_taken w stated e n ok =
    let sized = passes ((stated == length e.body) && nat_le stated event_limit) (BadSize stated (length e.body)) (id_reply w e) n ok in
    let parts = both (stated == length e.body) (nat_le stated event_limit) sized.0 in
    let free = branch (is_reserved e.id) (ReservedId e.id) (size_reply w e) n sized.1 in
    let fits = branch (nat_lt w.size (slot_size e)) (TooLarge (slot_size e) w.size) (spent_reply w e) n free.1 in
    let unspent = branch (nat_lt (2 ^ 62) (w.total + slot_size e)) (Spent w.total) (room_reply w e) n fits.1 in
    let stated_right : stated ≡ length e.body = eqb-true stated (length e.body) parts.0 in
    record {
      sendable = record {
        stated_right = stated_right;
        small = omega (arith, stated_right, leb-true stated event_limit parts.1);
        free = free.0;
        fits = ltb-false w.size (slot_size e) fits.0;
      };
      unspent = ltb-false (2 ^ 62) (w.total + slot_size e) unspent.0;
    }

pub running_last : (gate : RunGate) (last start : ℕ) → IsLast gate last → is_running gate start ≡ true → start ≡ last
running_last Shut last start fits e = absurd (cc)
running_last (Running s) last start fits e = omega (arith, fits, eqb-true s start e)
running_last (Paused s) last start fits e = absurd (cc)

pub paused_last : (gate : RunGate) (last start : ℕ) → IsLast gate last → is_paused gate start ≡ true → start ≡ last
paused_last Shut last start fits e = absurd (cc)
paused_last (Running s) last start fits e = absurd (cc)
paused_last (Paused s) last start fits e = omega (arith, fits, eqb-true s start e)

begin_later : (gate : RunGate) (last start accepted n : ℕ) → Ok n ≡ begin_reply_at gate last start accepted → last < start
begin_later Shut last start accepted n ok = ltb-true last start (passes (nat_lt last start) (OldStart last) (Ok accepted) n (sym ok)).0
begin_later (Running s) last start accepted n ok = absurd (cc)
begin_later (Paused s) last start accepted n ok = absurd (cc)

marked : (right : Bool) (w : Window) (n : ℕ) → Ok n ≡ mark_reply right w → right ≡ true
marked right w n ok = (passes right (WrongGate w.gate) (Ok (accepted_of w)) n (sym ok)).0

pub found_got : (gate : RunGate) (last room : ℕ) (found : Option (ℕ × Sent)) (place start : ℕ) → Got place start ≡ found_reply gate last room found → (s : Sent) × (found ≡ Some (place, s))
found_got gate last room None place start e = absurd (cc)
found_got gate last room (Some f) place start e =
    split (nat_le (length f.1.event.body) room) (λ b. Got place start ≡ (if b then Got f.0 f.1.start else SmallBuf (length f.1.event.body)) → (s : Sent) × (Some f ≡ Some (place, s)))
    (λ h got.
    let place_is : f.0 ≡ place = cc (got) in
    (f.1, ap (λ (n : ℕ). Some (n, f.1)) place_is))
    (λ h small. absurd (cc (small)))
    e

-- the place that was got is one of those kept
pub record IsKeptPlace (w : Window) (place : ℕ) : Type 0 where
  pub from : w.first ≤ place
  pub to : place < accepted_of w

got_kept : (w : Window) (room : ℕ) (o : Option Client) (place start : ℕ) → Got place start ≡ receive_reply_to w room o → IsKeptPlace w place
got_kept w room None place start e = absurd (cc)
got_kept w room (Some c) place start e =
    let found = found_got w.gate w.last room (found_in c w.first w.kept) place start e in
    let stands : StandsAt w.kept w.first place found.0 = found_stands c w.first w.kept place found.0 found.1 in
    let within : stands.index < length w.kept = get_within w.kept stands.index found.0 stands.is in
    record { from = omega (arith, stands.place_is); to = omega (arith, stands.place_is, within) }

-- The steps.

clients_kept : (w : Window) (clients : List (Option Client)) → IsWindow w → length clients ≡ 64 → AllSlots (IsClient w.first (accepted_of w)) clients → IsWindow (with_clients w clients)
clients_kept w clients is places all =
    record {
      keepable = is.keepable;
      starts = is.starts;
      fits = is.fits;
      spent = is.spent;
      level = is.level;
      paid = is.paid;
      places = places;
      clients = all;
      gate = is.gate;
    }

slot_kept : (w : Window) (n : ℕ) (o : Option Client) → IsWindow w → ((c : Client) → o ≡ Some c → IsClient w.first (accepted_of w) c) → IsWindow (with_clients w (slice_set w.clients n o))
slot_kept w n o is here =
    clients_kept w (slice_set w.clients n o) is (length-set w.clients n o ∙ is.places) (slots_set (IsClient w.first (accepted_of w)) w.clients n o is.clients here)

change_kept : (w : Window) (n : ℕ) (f : Client → Client) → IsWindow w → ((c : Client) → IsClient w.first (accepted_of w) c → IsClient w.first (accepted_of w) (f c)) → IsWindow (with_clients w (change_slot f w.clients n))
change_kept w n f is here =
    clients_kept w (change_slot f w.clients n) is (length-set w.clients n (option_map f (slot_at w.clients n)) ∙ is.places)
    (slots_change (IsClient w.first (accepted_of w)) f w.clients n is.clients (λ c e h. here c h))

requests_kept : (first accepted n : ℕ) (o : Option EventRequest) (c : Client) → ((q : EventRequest) → o ≡ Some q → q.since ≤ accepted) → IsClient first accepted c → IsClient first accepted (with_request n o c)
requests_kept first accepted n o c here is =
    record {
      from = is.from;
      to = is.to;
      ten = length-set c.requests n o ∙ is.ten;
      since = slots_set (λ (q : EventRequest). q.since ≤ accepted) c.requests n o is.since here;
    }

going_kept : (first accepted next : ℕ) (c : Client) → first ≤ next → next ≤ accepted → IsClient first accepted c → IsClient first accepted (going_on next c)
going_kept first accepted next c from to is = record { from = from; to = to; ten = is.ten; since = is.since }

pushed_kept : (first accepted first' : ℕ) (c : Client) → first' ≤ accepted → IsClient first accepted c → IsClient first' (accepted + 1) (pushed first' c)
pushed_kept first accepted first' c within is =
    record {
      from = omega arith;
      to = omega (arith, within, is.to);
      ten = is.ten;
      since = λ n q e. omega (arith, is.since n q e);
    }

joined_kept : (w : Window) (name : List ℕ) → IsClient w.first (accepted_of w) (joined name (accepted_of w))
joined_kept w name =
    record {
      from = omega arith;
      to = omega arith;
      ten = length-no_requests;
      since = λ n q e. absurd (cc (no_request_at n, e));
    }

pub gate_kept : (w : Window) (gate : RunGate) (last : ℕ) → IsWindow w → w.last ≤ last → IsLast gate last → IsWindow (with_gate w gate last)
gate_kept w gate last is later fits =
    record {
      keepable = is.keepable;
      starts = λ i s e. omega (arith, is.starts i s e, later);
      fits = is.fits;
      spent = is.spent;
      level = is.level;
      paid = is.paid;
      places = is.places;
      clients = is.clients;
      gate = fits;
    }

pub send_kept : (w : Window) (start stated : ℕ) (e : Event) → IsWindow w → IsTaken w stated e → start ≤ w.last → IsWindow (after_send w start e)
send_kept w start stated e is taken early =
    let gone : ℕ = gone_of w e in
    let rest : List Sent = drop gone w.kept in
    let s : Sent = record { event = e; start = start } in
    let within : gone ≤ length w.kept = to_drop_within slot_of_sent w.size (slot_size e) w.kept in
    let left : sum_by slot_of_sent rest + slot_size e ≤ w.size = to_drop_fits slot_of_sent w.size (slot_size e) w.kept taken.sendable.fits in
    let level : sum_by slot_of_sent (rest ++ s ∷ []) ≡ sum_by slot_of_sent rest + slot_size e = sum_by_push slot_of_sent rest s in
    let less : sum_by slot_of_sent rest ≤ w.total = omega (arith, is.level, sum_by-take-drop slot_of_sent w.kept gone) in
    let long : length (rest ++ s ∷ []) ≡ length rest + 1 = length-append rest (s ∷ []) in
    let cover : 24 ≤ slot_size e = omega (arith, slot_cover (length e.body)) in
    let more : accepted_of (after_send w start e) ≡ accepted_of w + 1 = omega (arith, long, length-drop gone w.kept, within) in
    record {
      keepable = get_push IsKeepable rest s (get_drop IsKeepable gone w.kept is.keepable) (record { small = taken.sendable.small; free = taken.sendable.free });
      starts = get_push (λ (x : Sent). x.start ≤ w.last) rest s (get_drop (λ (x : Sent). x.start ≤ w.last) gone w.kept is.starts) early;
      fits = omega (arith, level, left);
      spent = taken.unspent;
      level = omega (arith, level, less);
      paid = omega (arith, more, is.paid, cover);
      places = length-map w.clients (option_map (pushed (w.first + gone))) ∙ is.places;
      clients = subst (λ (n : ℕ). AllSlots (IsClient (w.first + gone) n) (change_all (pushed (w.first + gone)) w.clients)) (sym more)
          (slots_change_all (IsClient w.first (accepted_of w)) (IsClient (w.first + gone) (accepted_of w + 1)) (pushed (w.first + gone)) w.clients is.clients
          (λ c h. pushed_kept w.first (accepted_of w) (w.first + gone) c (omega (arith, within)) h));
      gate = is.gate;
    }

-- the opening window
pub window_opens : (size : ℕ) → IsWindow (opening size)
window_opens size =
    record {
      keepable = λ i s e. absurd (cc);
      starts = λ i s e. absurd (cc);
      fits = omega arith;
      spent = omega arith;
      level = omega arith;
      paid = omega arith;
      places = length-no_clients;
      clients = λ n c e. absurd (cc (no_client_at n, e));
      gate = omega arith;
    }

-- and the window after any call
pub window_stays : (w : Window) (entry : BufferEntry) → IsWindow w → IsReply w entry → IsWindow (window_after w entry)
window_stays w (Attach name (Ok n)) is reply = slot_kept w n (Some (joined name (accepted_of w))) is (λ c e. subst (IsClient w.first (accepted_of w)) (cc) (joined_kept w name))
window_stays w (Attach name (Err r)) is reply = is
window_stays w (Detach client (Ok u)) is reply = slot_kept w client None is (λ c e. absurd (cc))
window_stays w (Detach client (Err r)) is reply = is
window_stays w (Request client id mask kind (Ok n)) is reply =
    let q : EventRequest = record { id = id; mask = mask; kind = kind; since = accepted_of w } in
    change_kept w client (with_request n (Some q)) is (λ c h. requests_kept w.first (accepted_of w) n (Some q) c (λ p e. let same : q ≡ p = cc in omega (arith, ap (λ (x : EventRequest). x.since) same)) h)
window_stays w (Request client id mask kind (Err r)) is reply = is
window_stays w (Cancel client request (Ok u)) is reply = change_kept w client (with_request request None) is (λ c h. requests_kept w.first (accepted_of w) request None c (λ p e. absurd (cc)) h)
window_stays w (Cancel client request (Err r)) is reply = is
window_stays w (Send stated e (Ok n)) is reply = send_kept w 0 stated e is (sent_taken w stated e n (sym reply)) (omega arith)
window_stays w (Send stated e (Err r)) is reply = is
window_stays w (SendInRun start stated e (Ok n)) is reply =
    let runs = passes (is_running w.gate start) (NotRunning w.gate) (send_reply w stated e) n (sym reply) in
    send_kept w start stated e is (sent_taken w stated e n runs.1) (omega (arith, running_last w.gate w.last start is.gate runs.0))
window_stays w (SendInRun start stated e (Err r)) is reply = is
window_stays w (Receive client room (Got place start)) is reply =
    let kept : IsKeptPlace w place = got_kept w room (slot_at w.clients client) place start reply in
    change_kept w client (going_on (place + 1)) is (λ c h. going_kept w.first (accepted_of w) (place + 1) c (omega (arith, kept.from)) (omega (arith, kept.to)) h)
window_stays w (Receive client room (Empty gate last)) is reply = change_kept w client (going_on (accepted_of w)) is (λ c h. going_kept w.first (accepted_of w) (accepted_of w) c (omega arith) (omega arith) h)
window_stays w (Receive client room NoReader) is reply = is
window_stays w (Receive client room (SmallBuf need)) is reply = is
window_stays w (Begin start (Ok n)) is reply = gate_kept w (Running start) start is (omega (arith, begin_later w.gate w.last start (accepted_of w) n reply)) refl
window_stays w (Begin start (Err r)) is reply = is
window_stays w (Pause start (Ok n)) is reply = gate_kept w (Paused start) w.last is (omega arith) (running_last w.gate w.last start is.gate (marked (is_running w.gate start) w n reply))
window_stays w (Pause start (Err r)) is reply = is
window_stays w (Resume start (Ok n)) is reply = gate_kept w (Running start) w.last is (omega arith) (paused_last w.gate w.last start is.gate (marked (is_paused w.gate start) w n reply))
window_stays w (Resume start (Err r)) is reply = is
window_stays w (End start (Ok n)) is reply = gate_kept w Shut w.last is (omega arith) (omega arith)
window_stays w (End start (Err r)) is reply = is
window_stays w (Level reply) is e = is
window_stays w (Accepted reply) is e = is
