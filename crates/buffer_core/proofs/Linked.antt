-- How a window and its history go together: what the window keeps is what the history tells.
use Rattle.std.specs.Prelude.{◌≡◌, ℕ, ◌+◌, ◌-◌, ◌<◌, ◌≤◌, ◌==◌, false, if◌then◌else◌, List, [], ◌∷◌, ◌++◌, length, take, drop, sum_by, slice_get, slice_set, Option, Some, None, Ok, Err, refl, ⊤}
use Rattle.std.specs.Option.{option_map}
use Rattle.std.proofs.Common.{ap, sym, ◌∙◌, subst, arith}
use Rattle.std.proofs.lemmas.List.{length-drop, drop-drop, drop-append-le, length_push}
use Rattle.std.proofs.lemmas.Bool.{eqb-true}
use Rattle.std.proofs.lemmas.List.Sums.{sum_by_push}
use Rattle.daq_types.specs.declared.events.Event.{Event}
use Rattle.daq_types.specs.declared.runs.Kind.{Kind}
use Rattle.event.specs.Events.{slot_size}
use Rattle.buffer_core.specs.declared.gate.RunGate.{RunGate}
use Rattle.buffer_core.specs.declared.gate.RunGate.TheVariants.{Shut, Running, Paused}
use Rattle.buffer_core.specs.declared.client.Request.{Request as EventRequest}
use Rattle.buffer_core.specs.declared.client.Client.{Client}
use Rattle.buffer_core.specs.declared.replies.Received.TheVariants.{Got, Empty, NoClient as NoReader, SmallBuf}
use Rattle.buffer_core.specs.declared.entry.BufferEntry.{BufferEntry}
use Rattle.buffer_core.specs.declared.entry.BufferEntry.TheVariants.{Attach, Detach, Request, Cancel, Send, SendInRun, Receive, Begin, Pause, Resume, End, Level, Accepted}
use Rattle.buffer_core.specs.Slots.{slot_at, free_slot, change_slot}
use Rattle.buffer_core.specs.Window.{Sent, Window, opening, slot_of_sent, accepted_of, wants, owes, IsWindow}
use Rattle.buffer_core.specs.Calls.{IsReply, window_after, joined, with_request, going_on, pushed, found_in, receive_reply_to, gone_of, after_send, with_clients, with_gate, no_slot}
use Rattle.buffer_core.specs.Histories.{replay, IsLegal}
use Rattle.buffer_core.proofs.SlotLaws.{split, slot_change_all}
use Rattle.buffer_core.proofs.WindowLaws.{to_drop_within}
use Rattle.buffer_core.proofs.WindowKept.{window_opens, window_stays}
use Rattle.buffer_core.proofs.OpeningSlots.{no_client_at}
use Rattle.buffer_core.specs.Points.{Life, news_of, sent, sent_after, life_got, life_drained, life_after, life_at, request_after, request_at, past_after}
use Rattle.buffer_core.proofs.Places.{get_drop, get_take}
use Rattle.buffer_core.proofs.Numbered.{at_put, at_clear, at_change, free_within, none_found}
use Rattle.buffer_core.proofs.Found.{IsFound, found, not_found, not_owed}
use Rattle.buffer_core.proofs.Replied.{number_given, request_given, got_reply, empty_reply, IsAdmitted, admitted, run_admitted}
use Rattle.buffer_core.proofs.Following.{Follows, follows_joined, follows_asked, follows_cancelled, follows_drained, follows_got, follows_sent}

-- Points of legal histories.

-- the window at a point
abbrev pub window_at : (size : ℕ) → List (ℕ × BufferEntry) → Window
window_at size [] = opening size
window_at size (e ∷ past) = window_after (window_at size past) e.1

-- each reply was that of its window
abbrev pub WasLegal : (size : ℕ) → List (ℕ × BufferEntry) → Type 0
WasLegal size [] = ⊤
WasLegal size (e ∷ past) = IsReply (window_at size past) e.1 × WasLegal size past

pub legal_after : (size : ℕ) (past h : List (ℕ × BufferEntry)) → WasLegal size past → IsLegal (window_at size past) h → WasLegal size (past_after past h)
legal_after size past [] was legal = was
legal_after size past (e ∷ es) was legal = legal_after size (e ∷ past) es (legal.0, was) legal.1

pub replay_after : (size : ℕ) (past h : List (ℕ × BufferEntry)) → replay (window_at size past) h ≡ window_at size (past_after past h)
replay_after size past [] = refl
replay_after size past (e ∷ es) = replay_after size (e ∷ past) es

pub is_window_at : (size : ℕ) (past : List (ℕ × BufferEntry)) → WasLegal size past → IsWindow (window_at size past)
is_window_at size [] was = window_opens size
is_window_at size (e ∷ past) was = window_stays (window_at size past) e.1 (is_window_at size past was.1) was.0

-- The link.

-- a client lives in the window exactly where it lives in the history, and there both go together
abbrev pub Agrees : (first : ℕ) → List Sent → (asked : ℕ → Option EventRequest) → Option Client → Option Life → Type 0
Agrees first ss asked None None = ⊤
Agrees first ss asked (Some c) (Some l) = Follows first ss asked c l
Agrees first ss asked None (Some l) = ⊥
Agrees first ss asked (Some c) None = ⊥

-- the window keeps the last of the events that were sent
pub record Linked (size : ℕ) (w : Window) (ss : List Sent) (asked : ℕ → ℕ → Option EventRequest) (lives : ℕ → Option Life) : Type 0 where
  pub size_is : w.size ≡ size
  pub first : w.first ≤ length ss
  pub kept : w.kept ≡ drop w.first ss
  pub total : w.total ≡ sum_by slot_of_sent ss
  pub clients : (c : ℕ) → Agrees w.first ss (asked c) (slot_at w.clients c) (lives c)

abbrev pub IsLinked : (size : ℕ) → List (ℕ × BufferEntry) → Type 0
IsLinked size past = Linked size (window_at size past) (sent past) (request_at past) (life_at past)

pub counted : (size : ℕ) (w : Window) (ss : List Sent) (asked : ℕ → ℕ → Option EventRequest) (lives : ℕ → Option Life) → Linked size w ss asked lives → accepted_of w ≡ length ss
counted size w ss asked lives k = omega (arith, k.first, ap (λ (xs : List Sent). length xs) k.kept, length-drop w.first ss)

-- One client changes.

agrees_all : (first : ℕ) (ss : List Sent) (n c : ℕ) (asked asked' : ℕ → Option EventRequest) (o o' : Option Client) (l l' : Option Life) → Agrees first ss asked' o' l' → Agrees first ss asked o l →
    Agrees first ss (λ r. if n == c then asked' r else asked r) (if n == c then o' else o) (if n == c then l' else l)
agrees_all first ss n c asked asked' o o' l l' here old =
    split (n == c) (λ b. Agrees first ss (λ r. if b then asked' r else asked r) (if b then o' else o) (if b then l' else l)) (λ h. here) (λ h. old)

agrees_client : (first : ℕ) (ss : List Sent) (n c : ℕ) (asked : ℕ → Option EventRequest) (o o' : Option Client) (l l' : Option Life) → (n ≡ c → Agrees first ss asked o' l') → Agrees first ss asked o l →
    Agrees first ss asked (if n == c then o' else o) (if n == c then l' else l)
agrees_client first ss n c asked o o' l l' here old =
    split (n == c) (λ b. (n == c) ≡ b → Agrees first ss asked (if b then o' else o) (if b then l' else l)) (λ h e. here (eqb-true n c e)) (λ h e. old) refl

agrees_asked : (first : ℕ) (ss : List Sent) (n c : ℕ) (asked asked' : ℕ → Option EventRequest) (o o' : Option Client) (l : Option Life) → (n ≡ c → Agrees first ss asked' o' l) → Agrees first ss asked o l →
    Agrees first ss (λ r. if n == c then asked' r else asked r) (if n == c then o' else o) l
agrees_asked first ss n c asked asked' o o' l here old =
    split (n == c) (λ b. (n == c) ≡ b → Agrees first ss (λ r. if b then asked' r else asked r) (if b then o' else o) l) (λ h e. here (eqb-true n c e)) (λ h e. old) refl

with_request_agrees : (first : ℕ) (ss : List Sent) (asked : ℕ → Option EventRequest) (n : ℕ) (r : EventRequest) (o : Option Client) (l : Option Life) → ((c : Client) → o ≡ Some c → n < length c.requests) → r.since ≡ length ss →
    Agrees first ss asked o l → Agrees first ss (λ m. if n == m then Some r else asked m) (option_map (with_request n (Some r)) o) l
with_request_agrees first ss asked n r None None free new k = tt
with_request_agrees first ss asked n r None (Some l) free new k = absurd k
with_request_agrees first ss asked n r (Some c) None free new k = absurd k
with_request_agrees first ss asked n r (Some c) (Some l) free new k = follows_asked first ss asked c l k n r (free c refl) new

cancelled_agrees : (first : ℕ) (ss : List Sent) (asked : ℕ → Option EventRequest) (n : ℕ) (o : Option Client) (l : Option Life) →
    Agrees first ss asked o l → Agrees first ss (λ m. if n == m then None else asked m) (option_map (with_request n None) o) l
cancelled_agrees first ss asked n None None k = tt
cancelled_agrees first ss asked n None (Some l) k = absurd k
cancelled_agrees first ss asked n (Some c) None k = absurd k
cancelled_agrees first ss asked n (Some c) (Some l) k = follows_cancelled first ss asked c l k n

got_agrees : (w : Window) (ss : List Sent) (asked : ℕ → Option EventRequest) (room place start : ℕ) (o : Option Client) (l : Option Life) → w.kept ≡ drop w.first ss →
    Agrees w.first ss asked o l → Got place start ≡ receive_reply_to w room o → Agrees w.first ss asked (option_map (going_on (place + 1)) o) (option_map (life_got place) l)
got_agrees w ss asked room place start None None kept k reply = tt
got_agrees w ss asked room place start None (Some l) kept k reply = absurd k
got_agrees w ss asked room place start (Some c) None kept k reply = absurd k
got_agrees w ss asked room place start (Some c) (Some l) kept k reply =
    let got = got_reply w.gate w.last room (found_in c w.first w.kept) place start reply in
    let is : IsFound c w.first w.kept place got.0 = found c w.first w.kept place got.0 got.1 in
    follows_got w.first ss asked c l k place got.0 (subst (λ (ks : List Sent). IsFound c w.first ks place got.0) kept is)

drained_agrees : (w : Window) (ss : List Sent) (asked : ℕ → Option EventRequest) (room told_last : ℕ) (told : RunGate) (o : Option Client) (l : Option Life) → w.kept ≡ drop w.first ss → w.first ≤ length ss → accepted_of w ≡ length ss →
    Agrees w.first ss asked o l → Empty told told_last ≡ receive_reply_to w room o → Agrees w.first ss asked (option_map (going_on (accepted_of w)) o) (option_map (life_drained (length ss)) l)
drained_agrees w ss asked room told_last told None None kept first count k reply = tt
drained_agrees w ss asked room told_last told None (Some l) kept first count k reply = absurd k
drained_agrees w ss asked room told_last told (Some c) None kept first count k reply = absurd k
drained_agrees w ss asked room told_last told (Some c) (Some l) kept first count k reply =
    let none : found_in c w.first w.kept ≡ None = empty_reply w.gate w.last room (found_in c w.first w.kept) told told_last reply in
    let unwanted : (i q : ℕ) (x : Sent) → q ≡ w.first + i → slice_get (drop w.first ss) i ≡ Some x → wants q x.event c ≡ false =
    subst (λ (ks : List Sent). (i q : ℕ) (x : Sent) → q ≡ w.first + i → slice_get ks i ≡ Some x → wants q x.event c ≡ false) kept (not_found c w.first w.kept none) in
    subst (λ (n : ℕ). Follows w.first ss asked (going_on n c) (life_drained (length ss) l)) (sym count) (follows_drained w.first ss asked c l k first unwanted)

sent_agrees : (first later : ℕ) (ss : List Sent) (s : Sent) (asked : ℕ → Option EventRequest) (o : Option Client) (l : Option Life) → first ≤ later → later ≤ length ss →
    ((c : Client) → o ≡ Some c → (q : ℕ) (x : Sent) → first ≤ q → q < later → slice_get ss q ≡ Some x → owes q x.event c ≡ false) →
    Agrees first ss asked o l → Agrees later (ss ++ s ∷ []) asked (option_map (pushed later) o) l
sent_agrees first later ss s asked None None behind kept unowed k = tt
sent_agrees first later ss s asked None (Some l) behind kept unowed k = absurd k
sent_agrees first later ss s asked (Some c) None behind kept unowed k = absurd k
sent_agrees first later ss s asked (Some c) (Some l) behind kept unowed k = follows_sent first ss asked c l k s later behind kept (unowed c refl)

-- The steps.

relinked : (size : ℕ) (w : Window) (ss : List Sent) (asked asked' : ℕ → ℕ → Option EventRequest) (lives lives' : ℕ → Option Life) (clients : List (Option Client)) → Linked size w ss asked lives →
    ((c : ℕ) → Agrees w.first ss (asked' c) (slot_at clients c) (lives' c)) → Linked size (with_clients w clients) ss asked' lives'
relinked size w ss asked asked' lives lives' clients k all = record { size_is = k.size_is; first = k.first; kept = k.kept; total = k.total; clients = all }

gate_linked : (size : ℕ) (w : Window) (ss : List Sent) (asked : ℕ → ℕ → Option EventRequest) (lives : ℕ → Option Life) (gate : RunGate) (last : ℕ) → Linked size w ss asked lives → Linked size (with_gate w gate last) ss asked lives
gate_linked size w ss asked lives gate last k = record { size_is = k.size_is; first = k.first; kept = k.kept; total = k.total; clients = k.clients }

abbrev pub Steps : (size : ℕ) → Window → List Sent → (asked : ℕ → ℕ → Option EventRequest) → (lives : ℕ → Option Life) → BufferEntry → Type 0
Steps size w ss asked lives e =
    Linked size (window_after w e) (sent_after (news_of e) ss) (λ c n. request_after (news_of e) (length ss) c n (asked c n)) (λ c. life_after (news_of e) (length ss) c (lives c))

joined_linked : (size : ℕ) (w : Window) (ss : List Sent) (asked : ℕ → ℕ → Option EventRequest) (lives : ℕ → Option Life) (name : List ℕ) (n : ℕ) → Linked size w ss asked lives → IsReply w (Attach name (Ok n)) → Steps size w ss asked lives (Attach name (Ok n))
joined_linked size w ss asked lives name n k reply =
    let new : Option Client = Some (joined name (accepted_of w)) in
    let life : Life = record { joined = length ss; places = []; drained = 0 } in
    let free = free_within w.clients n (number_given (free_slot w.clients) no_slot n reply) in
    let here : Agrees w.first ss (λ r. None) new (Some life) =
    subst (λ (m : ℕ). Follows w.first ss (λ r. None) (joined name m) life) (sym (counted size w ss asked lives k)) (follows_joined w.first ss name k.first) in
    relinked size w ss asked (λ c r. if n == c then None else asked c r) lives (λ c. if n == c then Some life else lives c) (slice_set w.clients n new) k (λ c.
    subst (λ (o : Option Client). Agrees w.first ss (λ r. if n == c then None else asked c r) o (if n == c then Some life else lives c)) (sym (at_put w.clients n c new free.0))
    (agrees_all w.first ss n c (asked c) (λ r. None) (slot_at w.clients c) new (lives c) (Some life) here (k.clients c)))

left_linked : (size : ℕ) (w : Window) (ss : List Sent) (asked : ℕ → ℕ → Option EventRequest) (lives : ℕ → Option Life) (n : ℕ) (u : ⊤) → Linked size w ss asked lives → Steps size w ss asked lives (Detach n (Ok u))
left_linked size w ss asked lives n u k =
    relinked size w ss asked (λ c r. if n == c then None else asked c r) lives (λ c. if n == c then None else lives c) (slice_set w.clients n None) k (λ c.
    subst (λ (o : Option Client). Agrees w.first ss (λ r. if n == c then None else asked c r) o (if n == c then None else lives c)) (sym (at_clear w.clients n c))
    (agrees_all w.first ss n c (asked c) (λ r. None) (slot_at w.clients c) None (lives c) None tt (k.clients c)))

asked_linked : (size : ℕ) (w : Window) (ss : List Sent) (asked : ℕ → ℕ → Option EventRequest) (lives : ℕ → Option Life) (n id mask m : ℕ) (kind : Kind) → Linked size w ss asked lives → IsReply w (Request n id mask kind (Ok m)) →
    Steps size w ss asked lives (Request n id mask kind (Ok m))
asked_linked size w ss asked lives n id mask m kind k reply =
    let count : accepted_of w ≡ length ss = counted size w ss asked lives k in
    let q : (since : ℕ) → EventRequest = λ since. record { id = id; mask = mask; kind = kind; since = since } in
    let given = request_given (slot_at w.clients n) m reply in
    let free : (c : Client) → slot_at w.clients n ≡ Some c → m < length c.requests = λ c is.
    let same : given.0 ≡ c = cc (given.1, is) in
    subst (λ (x : Client). m < length x.requests) same (free_within given.0.requests m given.2).0 in
    let step : Linked size (with_clients w (change_slot (with_request m (Some (q (length ss)))) w.clients n)) ss (λ c r. if n == c then (if m == r then Some (q (length ss)) else asked c r) else asked c r) lives =
    relinked size w ss asked (λ c r. if n == c then (if m == r then Some (q (length ss)) else asked c r) else asked c r) lives lives (change_slot (with_request m (Some (q (length ss)))) w.clients n) k (λ c.
    subst (λ (o : Option Client). Agrees w.first ss (λ r. if n == c then (if m == r then Some (q (length ss)) else asked c r) else asked c r) o (lives c)) (sym (at_change (with_request m (Some (q (length ss)))) w.clients n c))
    (agrees_asked w.first ss n c (asked c) (λ r. if m == r then Some (q (length ss)) else asked c r) (slot_at w.clients c) (option_map (with_request m (Some (q (length ss)))) (slot_at w.clients n)) (lives c)
    (λ same. subst (λ (d : ℕ). Agrees w.first ss (λ r. if m == r then Some (q (length ss)) else asked d r) (option_map (with_request m (Some (q (length ss)))) (slot_at w.clients n)) (lives d)) same
    (with_request_agrees w.first ss (asked n) m (q (length ss)) (slot_at w.clients n) (lives n) free refl (k.clients n)))
    (k.clients c))) in
    subst (λ (since : ℕ). Linked size (with_clients w (change_slot (with_request m (Some (q since))) w.clients n)) ss (λ c r. if n == c then (if m == r then Some (q (length ss)) else asked c r) else asked c r) lives) (sym count) step

cancelled_linked : (size : ℕ) (w : Window) (ss : List Sent) (asked : ℕ → ℕ → Option EventRequest) (lives : ℕ → Option Life) (n m : ℕ) (u : ⊤) → Linked size w ss asked lives → Steps size w ss asked lives (Cancel n m (Ok u))
cancelled_linked size w ss asked lives n m u k =
    relinked size w ss asked (λ c r. if n == c then (if m == r then None else asked c r) else asked c r) lives lives (change_slot (with_request m None) w.clients n) k (λ c.
    subst (λ (o : Option Client). Agrees w.first ss (λ r. if n == c then (if m == r then None else asked c r) else asked c r) o (lives c)) (sym (at_change (with_request m None) w.clients n c))
    (agrees_asked w.first ss n c (asked c) (λ r. if m == r then None else asked c r) (slot_at w.clients c) (option_map (with_request m None) (slot_at w.clients n)) (lives c)
    (λ same. subst (λ (d : ℕ). Agrees w.first ss (λ r. if m == r then None else asked d r) (option_map (with_request m None) (slot_at w.clients n)) (lives d)) same
    (cancelled_agrees w.first ss (asked n) m (slot_at w.clients n) (lives n) (k.clients n)))
    (k.clients c)))

got_linked : (size : ℕ) (w : Window) (ss : List Sent) (asked : ℕ → ℕ → Option EventRequest) (lives : ℕ → Option Life) (n room place start : ℕ) → Linked size w ss asked lives → IsReply w (Receive n room (Got place start)) →
    Steps size w ss asked lives (Receive n room (Got place start))
got_linked size w ss asked lives n room place start k reply =
    relinked size w ss asked asked lives (λ c. if n == c then option_map (life_got place) (lives c) else lives c) (change_slot (going_on (place + 1)) w.clients n) k (λ c.
    subst (λ (o : Option Client). Agrees w.first ss (asked c) o (if n == c then option_map (life_got place) (lives c) else lives c)) (sym (at_change (going_on (place + 1)) w.clients n c))
    (agrees_client w.first ss n c (asked c) (slot_at w.clients c) (option_map (going_on (place + 1)) (slot_at w.clients n)) (lives c) (option_map (life_got place) (lives c))
    (λ same. subst (λ (d : ℕ). Agrees w.first ss (asked d) (option_map (going_on (place + 1)) (slot_at w.clients n)) (option_map (life_got place) (lives d))) same
    (got_agrees w ss (asked n) room place start (slot_at w.clients n) (lives n) k.kept (k.clients n) reply))
    (k.clients c)))

drained_linked : (size : ℕ) (w : Window) (ss : List Sent) (asked : ℕ → ℕ → Option EventRequest) (lives : ℕ → Option Life) (n room : ℕ) (gate : RunGate) (last : ℕ) → Linked size w ss asked lives → IsReply w (Receive n room (Empty gate last)) →
    Steps size w ss asked lives (Receive n room (Empty gate last))
drained_linked size w ss asked lives n room gate last k reply =
    relinked size w ss asked asked lives (λ c. if n == c then option_map (life_drained (length ss)) (lives c) else lives c) (change_slot (going_on (accepted_of w)) w.clients n) k (λ c.
    subst (λ (o : Option Client). Agrees w.first ss (asked c) o (if n == c then option_map (life_drained (length ss)) (lives c) else lives c)) (sym (at_change (going_on (accepted_of w)) w.clients n c))
    (agrees_client w.first ss n c (asked c) (slot_at w.clients c) (option_map (going_on (accepted_of w)) (slot_at w.clients n)) (lives c) (option_map (life_drained (length ss)) (lives c))
    (λ same. subst (λ (d : ℕ). Agrees w.first ss (asked d) (option_map (going_on (accepted_of w)) (slot_at w.clients n)) (option_map (life_drained (length ss)) (lives d))) same
    (drained_agrees w ss (asked n) room last gate (slot_at w.clients n) (lives n) k.kept k.first (counted size w ss asked lives k) (k.clients n) reply))
    (k.clients c)))

sent_linked : (size : ℕ) (w : Window) (ss : List Sent) (asked : ℕ → ℕ → Option EventRequest) (lives : ℕ → Option Life) (start stated : ℕ) (e : Event) (n : ℕ) → Linked size w ss asked lives → IsAdmitted w stated e n →
    Linked size (after_send w start e) (ss ++ record { event = e; start = start } ∷ []) asked lives
sent_linked size w ss asked lives start stated e n k is =
    let s : Sent = record { event = e; start = start } in
    let gone : ℕ = gone_of w e in
    let later : ℕ = w.first + gone in
    let within : gone ≤ length w.kept = to_drop_within slot_of_sent w.size (slot_size e) w.kept in
    let count : accepted_of w ≡ length ss = counted size w ss asked lives k in
    let up_to : later ≤ length ss = omega (arith, within, count) in
    let long : length (ss ++ s ∷ []) ≡ length ss + 1 = length_push ss s in
    record {
      size_is = k.size_is;
      first = omega (arith, up_to, long);
      kept = ap (λ (ks : List Sent). drop gone ks ++ s ∷ []) k.kept ∙ (ap (λ (ks : List Sent). ks ++ s ∷ []) (drop-drop gone w.first ss) ∙ sym (drop-append-le later ss (s ∷ []) up_to));
      total = omega (arith, k.total, sum_by_push slot_of_sent ss s);
      clients = λ c.
          subst (λ (o : Option Client). Agrees later (ss ++ s ∷ []) (asked c) o (lives c)) (sym (slot_change_all (pushed later) w.clients c))
          (sent_agrees w.first later ss s (asked c) (slot_at w.clients c) (lives c) (omega arith) up_to
          (λ reader lives_there q x from to is_there.
          let place_is : q ≡ w.first + (q - w.first) = omega (arith, from) in
          let front : q - w.first < gone = omega (arith, from, to) in
          let in_kept : slice_get w.kept (q - w.first) ≡ Some x = ap (λ (ks : List Sent). slice_get ks (q - w.first)) k.kept ∙ (get_drop w.first ss (q - w.first) q place_is ∙ is_there) in
          let in_front : slice_get (take gone w.kept) (q - w.first) ≡ Some x = get_take gone w.kept (q - w.first) front ∙ in_kept in
          none_found (owes q x.event) w.clients (not_owed w.clients w.first (take gone w.kept) is.free (q - w.first) q x place_is in_front) c reader lives_there)
          (k.clients c));
    }

step : (size : ℕ) (w : Window) (ss : List Sent) (asked : ℕ → ℕ → Option EventRequest) (lives : ℕ → Option Life) (e : BufferEntry) → Linked size w ss asked lives → IsReply w e → Steps size w ss asked lives e
step size w ss asked lives (Attach name (Ok n)) k reply = joined_linked size w ss asked lives name n k reply
step size w ss asked lives (Attach name (Err r)) k reply = k
step size w ss asked lives (Detach client (Ok u)) k reply = left_linked size w ss asked lives client u k
step size w ss asked lives (Detach client (Err r)) k reply = k
step size w ss asked lives (Request client id mask kind (Ok n)) k reply = asked_linked size w ss asked lives client id mask n kind k reply
step size w ss asked lives (Request client id mask kind (Err r)) k reply = k
step size w ss asked lives (Cancel client request (Ok u)) k reply = cancelled_linked size w ss asked lives client request u k
step size w ss asked lives (Cancel client request (Err r)) k reply = k
step size w ss asked lives (Send stated e (Ok n)) k reply = sent_linked size w ss asked lives 0 stated e n k (admitted w stated e n (sym reply))
step size w ss asked lives (Send stated e (Err r)) k reply = k
step size w ss asked lives (SendInRun start stated e (Ok n)) k reply = sent_linked size w ss asked lives start stated e n k (run_admitted w start stated e n (sym reply)).1
step size w ss asked lives (SendInRun start stated e (Err r)) k reply = k
step size w ss asked lives (Receive client room (Got place start)) k reply = got_linked size w ss asked lives client room place start k reply
step size w ss asked lives (Receive client room (Empty gate last)) k reply = drained_linked size w ss asked lives client room gate last k reply
step size w ss asked lives (Receive client room NoReader) k reply = k
step size w ss asked lives (Receive client room (SmallBuf need)) k reply = k
step size w ss asked lives (Begin start (Ok n)) k reply = gate_linked size w ss asked lives (Running start) start k
step size w ss asked lives (Begin start (Err r)) k reply = k
step size w ss asked lives (Pause start (Ok n)) k reply = gate_linked size w ss asked lives (Paused start) w.last k
step size w ss asked lives (Pause start (Err r)) k reply = k
step size w ss asked lives (Resume start (Ok n)) k reply = gate_linked size w ss asked lives (Running start) w.last k
step size w ss asked lives (Resume start (Err r)) k reply = k
step size w ss asked lives (End start (Ok n)) k reply = gate_linked size w ss asked lives Shut w.last k
step size w ss asked lives (End start (Err r)) k reply = k
step size w ss asked lives (Level reply) k e = k
step size w ss asked lives (Accepted reply) k e = k

-- every point of a legal history
pub linked : (size : ℕ) (past : List (ℕ × BufferEntry)) → WasLegal size past → IsLinked size past
linked size [] was =
    record {
      size_is = refl;
      first = omega arith;
      kept = refl;
      total = refl;
      clients = λ c. subst (λ (o : Option Client). Agrees 0 [] (λ n. None) o None) (sym (no_client_at c)) tt;
    }
linked size (e ∷ past) was = step size (window_at size past) (sent past) (request_at past) (life_at past) e.1 (linked size past was.1) was.0
