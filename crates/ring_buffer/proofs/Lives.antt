-- How often the receives of a client read the ring while it stays attached.
use Rattle.std.specs.Prelude.{◌≡◌, ◌≢◌, ℕ, suc, ◌+◌, ◌-◌, ◌<◌, ◌≤◌, ◌==◌, Bool, true, false, ◌&&◌, if◌then◌else◌, nat_le, is_none, List, [], ◌∷◌, ◌++◌, length, drop, slice_set, Option, Some, None, Ok, Err, refl}
use Rattle.std.specs.Option.{option_map, ok_or}
use Rattle.std.proofs.Common.{ap, sym, ◌∙◌, subst, arith, length-append}
use Rattle.std.proofs.lemmas.Bool.{eqb-true, eqb-false, leb-true}
use Rattle.std.proofs.lemmas.List.{length-drop}
use Rattle.std.proofs.lemmas.List.Quantifiers.{position-Some}
use Rattle.std.proofs.lemmas.List.Sums.{sum_by-cons}
use Rattle.std.proofs.lemmas.Option.{some_pair_parts}
use Rattle.daq_types.specs.declared.events.Event.{Event}
use Rattle.event.specs.Events.{slot_size}
use Rattle.buffer_core.specs.declared.gate.RunGate.{RunGate}
use Rattle.buffer_core.specs.declared.client.Client.{Client}
use Rattle.buffer_core.specs.declared.replies.Received.TheVariants.{Got, Empty, NoClient as NoReader, SmallBuf}
use Rattle.buffer_core.specs.declared.entry.BufferEntry.{BufferEntry}
use Rattle.buffer_core.specs.declared.entry.BufferEntry.TheVariants.{Attach, Detach, Request, Cancel, Send, SendInRun, Receive, Begin, Pause, Resume, End, Level, Accepted}
use Rattle.buffer_core.specs.Slots.{slot_at, free_slot, some_slot, change_slot}
use Rattle.buffer_core.proofs.SlotLaws.{split, slot_set_same, slot_set_other, slot_change_same, slot_change_other, slot_change_all}
use Rattle.buffer_core.specs.Window.{Sent, Window, opening, slot_of_sent, accepted_of, covers, wants, IsWindow}
use Rattle.buffer_core.specs.Calls.{IsReply, window_after, no_slot, joined, with_request, going_on, pushed, gone_of, after_send, found_in, found_reply, receive_reply_to}
use Rattle.buffer_core.proofs.WindowLaws.{to_drop_within}
use Rattle.buffer_core.proofs.WindowKept.{window_stays}
use Rattle.buffer_core.specs.Histories.{replay, IsLegal}
use Rattle.buffer_core.proofs.HistoryLaws.{replay-push, opening_replays}
use Rattle.buffer_core.specs.Points.{news_of}
use Rattle.buffer_core.specs.Continued.{added_by, sent_in}
use Rattle.buffer_core.specs.Readers.{LeavesLife, KeepsLife}
use Rattle.ring_buffer.specs.Reads.{fronts_of_receive}
use Rattle.ring_buffer.specs.LifeReads.{reads_of_call, is_got, is_read, count_got, reads_of_client}

-- What a client was given lies ahead of it.

left_true : (a b : Bool) → a && b ≡ true → a ≡ true
left_true true b e = refl
left_true false b e = absurd (cc)

found_ahead : (c : Client) (first : ℕ) (ss : List Sent) (place : ℕ) (s : Sent) → found_in c first ss ≡ Some (place, s) → c.next ≤ place
found_ahead c first [] place s e = absurd (cc)
found_ahead c first (x ∷ xs) place s e =
    split (wants first x.event c) (λ b. wants first x.event c ≡ b → (if b then Some (first, x) else found_in c (suc first) xs) ≡ Some (place, s) → c.next ≤ place)
    (λ h wanted here.
    let parts = some_pair_parts first place x s here in
    omega (arith, parts.0, leb-true c.next first (left_true (nat_le c.next first) (some_slot (covers first x.event) c.requests) wanted)))
    (λ h other later. found_ahead c (suc first) xs place s later)
    refl e

found_of : (gate : RunGate) (last room : ℕ) (found : Option (ℕ × Sent)) (place start : ℕ) → Got place start ≡ found_reply gate last room found → (s : Sent) × (found ≡ Some (place, s))
found_of gate last room None place start e = absurd (cc)
found_of gate last room (Some f) place start e =
    split (nat_le (length f.1.event.body) room) (λ b. Got place start ≡ (if b then Got f.0 f.1.start else SmallBuf (length f.1.event.body)) → (s : Sent) × (Some f ≡ Some (place, s)))
    (λ h got. let place_is : f.0 ≡ place = cc (got) in (f.1, ap (λ (n : ℕ). Some (n, f.1)) place_is))
    (λ h small. absurd (cc (small)))
    e

got_ahead : (w : Window) (room place start : ℕ) (o : Option Client) (c : Client) → o ≡ Some c → Got place start ≡ receive_reply_to w room o → c.next ≤ place
got_ahead w room place start None c lives reply = absurd (cc)
got_ahead w room place start (Some d) c lives reply =
    let same : d ≡ c = cc (lives) in
    let it = found_of w.gate w.last room (found_in d w.first w.kept) place start reply in
    subst (λ (x : Client). x.next ≤ place) same (found_ahead d w.first w.kept place it.0 it.1)

-- One call.

-- the client lives on, and has read no more than it went on, but for one more read for an event
record Advances (client : ℕ) (w : Window) (c : Client) (reads got : ℕ) : Type 0 where
  next : Client
  lives : slot_at w.clients client ≡ Some next
  few : reads + c.next ≤ next.next + got

abbrev as_number : Bool → ℕ
as_number b = if b then 1 else 0

abbrev Step : (client : ℕ) → Window → Client → BufferEntry → Type 0
Step client w c e = Advances client (window_after w e) c (if is_read client e then reads_of_call w e else 0) (as_number (is_got client e))

same_client : (client : ℕ) (w : Window) (c : Client) → slot_at w.clients client ≡ Some c → Advances client w c 0 0
same_client client w c lives = record { next = c; lives = lives; few = omega arith }

-- another number is given or taken
set_other : (client n : ℕ) (w w' : Window) (c : Client) (o : Option Client) → w'.clients ≡ slice_set w.clients n o → n ≢ client → slot_at w.clients client ≡ Some c → Advances client w' c 0 0
set_other client n w w' c o are other lives =
    same_client client w' c (ap (λ (xs : List (Option Client)). slot_at xs client) are ∙ (slot_set_other w.clients n client o (λ e. other (sym e)) ∙ lives))

-- a client gets other requests
request_changed : (client n : ℕ) (w w' : Window) (c : Client) (f : Client → Client) → w'.clients ≡ change_slot f w.clients n → ((d : Client) → (f d).next ≡ d.next) → slot_at w.clients client ≡ Some c → Advances client w' c 0 0
request_changed client n w w' c f are keeps lives =
    split (n == client) (λ b. (n == client) ≡ b → Advances client w' c 0 0)
    (λ h here.
    let same : n ≡ client = eqb-true n client here in
    record {
      next = f c;
      lives = ap (λ (xs : List (Option Client)). slot_at xs client) are
          ∙ subst (λ (k : ℕ). slot_at (change_slot f w.clients k) client ≡ Some (f c)) (sym same) (slot_change_same f w.clients client c lives);
      few = omega (arith, keeps c);
    })
    (λ h there.
    same_client client w' c (ap (λ (xs : List (Option Client)). slot_at xs client) are
    ∙ (slot_change_other f w.clients n client (λ e. eqb-false n client there (sym e)) ∙ lives)))
    refl

-- a client goes on to this place
moved_on : (client n to reads got : ℕ) (w w' : Window) (c : Client) → w'.clients ≡ change_slot (going_on to) w.clients n → slot_at w.clients client ≡ Some c → (n ≡ client → reads + c.next ≤ to + got)
    → Advances client w' c (if n == client then reads else 0) (if n == client then got else 0)
moved_on client n to reads got w w' c are lives few =
    split (n == client) (λ b. (n == client) ≡ b → Advances client w' c (if b then reads else 0) (if b then got else 0))
    (λ h here.
    let same : n ≡ client = eqb-true n client here in
    record {
      next = going_on to c;
      lives = ap (λ (xs : List (Option Client)). slot_at xs client) are
          ∙ subst (λ (k : ℕ). slot_at (change_slot (going_on to) w.clients k) client ≡ Some (going_on to c)) (sym same) (slot_change_same (going_on to) w.clients client c lives);
      few = few same;
    })
    (λ h there.
    same_client client w' c (ap (λ (xs : List (Option Client)). slot_at xs client) are
    ∙ (slot_change_other (going_on to) w.clients n client (λ e. eqb-false n client there (sym e)) ∙ lives)))
    refl

sent_on : (client start : ℕ) (w : Window) (c : Client) (e : Event) → slot_at w.clients client ≡ Some c → Advances client (after_send w start e) c 0 0
sent_on client start w c e lives =
    record {
      next = pushed (w.first + gone_of w e) c;
      lives = slot_change_all (pushed (w.first + gone_of w e)) w.clients client ∙ ap (option_map (pushed (w.first + gone_of w e))) lives;
      few = omega arith;
    }

fronts_of_got : (w : Window) (o : Option Client) (c : Client) (place start : ℕ) → o ≡ Some c → fronts_of_receive w o (Got place start) ≡ place + 1 - c.next
fronts_of_got w o c place start lives = ap (λ (x : Option Client). fronts_of_receive w x (Got place start)) lives

fronts_of_empty : (w : Window) (o : Option Client) (c : Client) (gate : RunGate) (last : ℕ) → o ≡ Some c → fronts_of_receive w o (Empty gate last) ≡ accepted_of w - c.next
fronts_of_empty w o c gate last lives = ap (λ (x : Option Client). fronts_of_receive w x (Empty gate last)) lives

got_few : (w : Window) (client n room place start : ℕ) (c : Client) → slot_at w.clients client ≡ Some c → Got place start ≡ receive_reply_to w room (slot_at w.clients n) → n ≡ client
    → fronts_of_receive w (slot_at w.clients n) (Got place start) + 1 + c.next ≤ place + 1 + 1
got_few w client n room place start c lives reply same =
    let here : slot_at w.clients n ≡ Some c = ap (λ (k : ℕ). slot_at w.clients k) same ∙ lives in
    omega (arith, fronts_of_got w (slot_at w.clients n) c place start here, got_ahead w room place start (slot_at w.clients n) c here reply)

empty_few : (w : Window) (client n : ℕ) (gate : RunGate) (last : ℕ) (c : Client) → slot_at w.clients client ≡ Some c → c.next ≤ accepted_of w → n ≡ client
    → fronts_of_receive w (slot_at w.clients n) (Empty gate last) + 0 + c.next ≤ accepted_of w + 0
empty_few w client n gate last c lives within same =
    let here : slot_at w.clients n ≡ Some c = ap (λ (k : ℕ). slot_at w.clients k) same ∙ lives in
    omega (arith, fronts_of_empty w (slot_at w.clients n) c gate last here, within)

no_number : (b : Bool) → ◌≡◌ {A = ℕ} (if b then 0 else 0) 0
no_number true = refl
no_number false = refl

step : (client : ℕ) (w : Window) (c : Client) (e : BufferEntry) → IsWindow w → IsReply w e → slot_at w.clients client ≡ Some c → LeavesLife client (news_of e) → Step client w c e
step client w c (Attach name (Ok n)) is reply lives leaves = set_other client n w (window_after w (Attach name (Ok n))) c (Some (joined name (accepted_of w))) refl leaves lives
step client w c (Attach name (Err r)) is reply lives leaves = same_client client w c lives
step client w c (Detach n (Ok u)) is reply lives leaves = set_other client n w (window_after w (Detach n (Ok u))) c None refl leaves lives
step client w c (Detach n (Err r)) is reply lives leaves = same_client client w c lives
step client w c (Request n id mask kind (Ok r)) is reply lives leaves =
    request_changed client n w (window_after w (Request n id mask kind (Ok r))) c (with_request r (Some (record { id = id; mask = mask; kind = kind; since = accepted_of w }))) refl (λ d. refl) lives
step client w c (Request n id mask kind (Err r)) is reply lives leaves = same_client client w c lives
step client w c (Cancel n request (Ok u)) is reply lives leaves =
    request_changed client n w (window_after w (Cancel n request (Ok u))) c (with_request request None) refl (λ d. refl) lives
step client w c (Cancel n request (Err r)) is reply lives leaves = same_client client w c lives
step client w c (Send stated e (Ok n)) is reply lives leaves = sent_on client 0 w c e lives
step client w c (Send stated e (Err r)) is reply lives leaves = same_client client w c lives
step client w c (SendInRun start stated e (Ok n)) is reply lives leaves = sent_on client start w c e lives
step client w c (SendInRun start stated e (Err r)) is reply lives leaves = same_client client w c lives
step client w c (Receive n room (Got place start)) is reply lives leaves =
    moved_on client n (place + 1) (fronts_of_receive w (slot_at w.clients n) (Got place start) + 1) 1 w (window_after w (Receive n room (Got place start))) c refl lives
    (got_few w client n room place start c lives reply)
step client w c (Receive n room (Empty gate last)) is reply lives leaves =
    subst (λ (got : ℕ). Advances client (window_after w (Receive n room (Empty gate last))) c (if n == client then fronts_of_receive w (slot_at w.clients n) (Empty gate last) + 0 else 0) got) (no_number (n == client))
    (moved_on client n (accepted_of w) (fronts_of_receive w (slot_at w.clients n) (Empty gate last) + 0) 0 w (window_after w (Receive n room (Empty gate last))) c refl lives
    (empty_few w client n gate last c lives (is.clients client c lives).to))
step client w c (Receive n room NoReader) is reply lives leaves = same_client client w c lives
step client w c (Receive n room (SmallBuf need)) is reply lives leaves = same_client client w c lives
step client w c (Begin start (Ok n)) is reply lives leaves = same_client client (window_after w (Begin start (Ok n))) c lives
step client w c (Begin start (Err r)) is reply lives leaves = same_client client w c lives
step client w c (Pause start (Ok n)) is reply lives leaves = same_client client (window_after w (Pause start (Ok n))) c lives
step client w c (Pause start (Err r)) is reply lives leaves = same_client client w c lives
step client w c (Resume start (Ok n)) is reply lives leaves = same_client client (window_after w (Resume start (Ok n))) c lives
step client w c (Resume start (Err r)) is reply lives leaves = same_client client w c lives
step client w c (End start (Ok n)) is reply lives leaves = same_client client (window_after w (End start (Ok n))) c lives
step client w c (End start (Err r)) is reply lives leaves = same_client client w c lives
step client w c (Level reply) is e lives leaves = same_client client w c lives
step client w c (Accepted reply) is e lives leaves = same_client client w c lives

-- How many events a call adds.

sent_counted : (w : Window) (start : ℕ) (e : Event) → accepted_of (after_send w start e) ≡ accepted_of w + 1
sent_counted w start e =
    let gone : ℕ = gone_of w e in
    omega (arith, length-append (drop gone w.kept) (record { event = e; start = start } ∷ []), length-drop gone w.kept, to_drop_within slot_of_sent w.size (slot_size e) w.kept)

added : (w : Window) (e : BufferEntry) → accepted_of (window_after w e) ≡ accepted_of w + length (added_by (news_of e))
added w (Attach name (Ok n)) = omega arith
added w (Attach name (Err r)) = omega arith
added w (Detach client (Ok u)) = omega arith
added w (Detach client (Err r)) = omega arith
added w (Request client id mask kind (Ok n)) = omega arith
added w (Request client id mask kind (Err r)) = omega arith
added w (Cancel client request (Ok u)) = omega arith
added w (Cancel client request (Err r)) = omega arith
added w (Send stated e (Ok n)) = sent_counted w 0 e
added w (Send stated e (Err r)) = omega arith
added w (SendInRun start stated e (Ok n)) = sent_counted w start e
added w (SendInRun start stated e (Err r)) = omega arith
added w (Receive client room (Got place start)) = omega arith
added w (Receive client room (Empty gate last)) = omega arith
added w (Receive client room NoReader) = omega arith
added w (Receive client room (SmallBuf need)) = omega arith
added w (Begin start (Ok n)) = omega arith
added w (Begin start (Err r)) = omega arith
added w (Pause start (Ok n)) = omega arith
added w (Pause start (Err r)) = omega arith
added w (Resume start (Ok n)) = omega arith
added w (Resume start (Err r)) = omega arith
added w (End start (Ok n)) = omega arith
added w (End start (Err r)) = omega arith
added w (Level reply) = omega arith
added w (Accepted reply) = omega arith

sent_more : (e : ℕ × BufferEntry) (es : List (ℕ × BufferEntry)) → length (sent_in (e ∷ es)) ≡ length (added_by (news_of e.1)) + length (sent_in es)
sent_more e es = length-append (added_by (news_of e.1)) (sent_in es)

-- Many calls.

got_more : (client : ℕ) (e : ℕ × BufferEntry) (es : List (ℕ × BufferEntry)) → count_got client (e ∷ es) ≡ as_number (is_got client e.1) + count_got client es
got_more client e es = sum_by-cons (λ (x : ℕ × BufferEntry). as_number (is_got client x.1)) e es

few_reads : (client : ℕ) (w : Window) (c : Client) (es : List (ℕ × BufferEntry)) → IsWindow w → IsLegal w es → slot_at w.clients client ≡ Some c → KeepsLife client es
    → reads_of_client client w es + c.next ≤ accepted_of w + length (sent_in es) + count_got client es
few_reads client w c [] is legal lives keeps = omega (arith, (is.clients client c lives).to)
few_reads client w c (e ∷ es) is legal lives keeps =
    let one : Step client w c e.1 = step client w c e.1 is legal.0 lives keeps.0 in
    let rest : reads_of_client client (window_after w e.1) es + one.next.next ≤ accepted_of (window_after w e.1) + length (sent_in es) + count_got client es =
    few_reads client (window_after w e.1) one.next es (window_stays w e.1 is legal.0) legal.1 one.lives keeps.1 in
    omega (arith, one.few, rest, added w e.1, sent_more e es, got_more client e es)

-- From the opening on.

legal_parts : (w : Window) (before after : List (ℕ × BufferEntry)) → IsLegal w (before ++ after) → IsLegal w before × IsLegal (replay w before) after
legal_parts w [] after legal = (tt, legal)
legal_parts w (e ∷ es) after legal = let rest = legal_parts (window_after w e.1) es after legal.1 in ((legal.0, rest.0), rest.1)

replay_counts : (w : Window) (es : List (ℕ × BufferEntry)) → accepted_of (replay w es) ≡ accepted_of w + length (sent_in es)
replay_counts w [] = omega arith
replay_counts w (e ∷ es) = omega (arith, replay_counts (window_after w e.1) es, added w e.1, sent_more e es)

sent_parts : (before after : List (ℕ × BufferEntry)) → length (sent_in (before ++ after)) ≡ length (sent_in before) + length (sent_in after)
sent_parts [] after = omega arith
sent_parts (e ∷ es) after = omega (arith, sent_more e (es ++ after), sent_more e es, sent_parts es after)

pub rest_reads : (size : ℕ) (before life : List (ℕ × BufferEntry)) (client : ℕ) (c : Client) → IsLegal (opening size) (before ++ life)
    → slot_at (replay (opening size) before).clients client ≡ Some c → KeepsLife client life
    → reads_of_client client (replay (opening size) before) life ≤ length (sent_in (before ++ life)) - c.next + count_got client life
rest_reads size before life client c legal lives keeps =
    let parts = legal_parts (opening size) before life legal in
    let few : reads_of_client client (replay (opening size) before) life + c.next ≤ accepted_of (replay (opening size) before) + length (sent_in life) + count_got client life =
    few_reads client (replay (opening size) before) c life (opening_replays size before parts.0) parts.1 lives keeps in
    omega (arith, few, replay_counts (opening size) before, sent_parts before life)

attached_to : (xs : List (Option Client)) (n : ℕ) → Ok n ≡ ok_or (free_slot xs) no_slot → n < length xs
attached_to xs n reply = elim (free_slot xs) as (λ o. free_slot xs ≡ o → Ok n ≡ ok_or o no_slot → n < length xs) [ None ↦ λ e r. absurd (cc (r)) | Some m ↦ λ e r. let same : m ≡ n = cc (r) in let is = position-Some is_none xs m None e in omega (arith, is.0, same) ] refl reply

pub life_reads : (size : ℕ) (before life : List (ℕ × BufferEntry)) (caller client : ℕ) (name : List ℕ) → IsLegal (opening size) (before ++ (caller, Attach name (Ok client)) ∷ life)
    → KeepsLife client life
    → reads_of_client client (replay (opening size) (before ++ (caller, Attach name (Ok client)) ∷ [])) life ≤ length (sent_in life) + count_got client life
life_reads size before life caller client name legal keeps =
    let w : Window = replay (opening size) before in
    let w' : Window = window_after w (Attach name (Ok client)) in
    let parts = legal_parts (opening size) before ((caller, Attach name (Ok client)) ∷ life) legal in
    let is : IsWindow w = opening_replays size before parts.0 in
    let lives : slot_at w'.clients client ≡ Some (joined name (accepted_of w)) = slot_set_same w.clients client (Some (joined name (accepted_of w))) (attached_to w.clients client parts.1.0) in
    let few : reads_of_client client w' life + accepted_of w ≤ accepted_of w + length (sent_in life) + count_got client life =
    few_reads client w' (joined name (accepted_of w)) life (window_stays w (Attach name (Ok client)) is parts.1.0) parts.1.1 lives keeps in
    subst (λ (x : Window). reads_of_client client x life ≤ length (sent_in life) + count_got client life) (sym (replay-push (opening size) before caller (Attach name (Ok client))))
    (omega (arith, few))
