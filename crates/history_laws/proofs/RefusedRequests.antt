-- A request is refused only where its client has one that stands.
use Rattle.std.specs.Prelude.{◌≡◌, ◌≢◌, ℕ, zero, suc, ◌<◌, ◌+◌, ◌==◌, Bool, true, false, if◌then◌else◌, length, slice_set, List, [], ◌∷◌, ◌++◌, Option, Some, None, Ok, Err, refl}
use Rattle.std.specs.Option.{option_map, ok_or}
use Rattle.std.proofs.Common.{ap, sym, ◌∙◌, subst, arith, inl, inr}
use Rattle.std.proofs.lemmas.Bool.Decides.{eqb_tells}
use Rattle.std.proofs.lemmas.List.{length-set, length-replicate}
use Rattle.std.proofs.lemmas.List.Quantifiers.{position-Some}
use Rattle.std.specs.Option.{is_none}
use Rattle.daq_types.specs.Callers.{entries_by}
use Rattle.buffer_core.specs.declared.client.Request.{Request as EventRequest}
use Rattle.buffer_core.specs.declared.client.Client.{Client}
use Rattle.buffer_core.specs.declared.replies.RequestRefusal.{RequestRefusal}
use Rattle.buffer_core.specs.declared.replies.RequestRefusal.TheVariants.{NoRequestSlot}
use Rattle.buffer_core.specs.declared.replies.Received.TheVariants.{Got, Empty, NoClient as NoReader, SmallBuf}
use Rattle.buffer_core.specs.declared.entry.BufferEntry.{BufferEntry}
use Rattle.buffer_core.specs.declared.entry.BufferEntry.TheVariants.{Attach, Detach, Request, Cancel, Send, SendInRun, Receive, Begin, Pause, Resume, End, Level, Accepted}
use Rattle.buffer_core.specs.Slots.{slot_at, free_slot, change_slot, change_all}
use Rattle.buffer_core.proofs.SlotLaws.{slot_set_same, slot_set_other, slot_change_same, slot_change_other, slot_change_all, slot_free}
use Rattle.buffer_core.specs.Window.{Window, no_requests, opening, accepted_of}
use Rattle.buffer_core.specs.Calls.{no_slot, joined, with_request, going_on, pushed, gone_of, request_reply_to, cancel_reply_to, cancel_reply_of, IsReply, window_after}
use Rattle.buffer_core.specs.Histories.{IsLegal, replay}
use Rattle.buffer_core.specs.Points.{news_of, past_after, past_of}
use Rattle.buffer_core.specs.Delivered.{Throughout}
use Rattle.buffer_core.specs.Readers.{LeavesRequests}
use Rattle.member_model.specs.OwnCalls.{calls_after, gave_number, IsOwnCall, asks_after, asks}
use Rattle.history_laws.specs.BufferLaws.{BufferLaws}
use Rattle.history_laws.specs.RefusedCalls.{RequestsRefused}
use Rattle.history_laws.proofs.Pasts.{IsTold, told, throughout_front, own_cases, own_after, OwnPast, own_past, own_rest, own_front, own_call, StandsIn, stands, past_after-append}
use Rattle.history_laws.proofs.Owners.{IsAttached, gave_before, not_again, others_leave}
use Rattle.history_laws.proofs.EndedRuns.{legal_behind}
use Rattle.history_laws.proofs.RefusedAttaches.{none_free}

-- A client whose requests are all known to its owner: one that stands was made, and not called to be cancelled since.

abbrev IsKnown : (asked : ℕ → Bool) → Option Client → Type 0
IsKnown asked None = ⊥
IsKnown asked (Some c) = (length c.requests ≡ 10) × ((n : ℕ) → (q : EventRequest) → slot_at c.requests n ≡ Some q → asked n ≡ true)

-- the client changes, and its requests do not
kept_known : (asked : ℕ → Bool) (f : Client → Client) (o : Option Client) → ((c : Client) → (f c).requests ≡ c.requests) → IsKnown asked o → IsKnown asked (option_map f o)
kept_known asked f None keeps known = known
kept_known asked f (Some c) keeps known =
    subst (λ (rs : List (Option EventRequest)). (length rs ≡ 10) × ((n : ℕ) → (q : EventRequest) → slot_at rs n ≡ Some q → asked n ≡ true)) (sym (keeps c)) known

other_slot : (asked : ℕ → Bool) (os : List (Option Client)) (n c : ℕ) (o : Option Client) → n ≢ c → IsKnown asked (slot_at os c) → IsKnown asked (slot_at (slice_set os n o) c)
other_slot asked os n c o other known = subst (IsKnown asked) (sym (slot_set_other os n c o (λ e. other (sym e)))) known

-- the client at the number, where there is one
changed_slot : (asked later : ℕ → Bool) (f : Client → Client) (os : List (Option Client)) (c : ℕ) (o : Option Client) → slot_at os c ≡ o → IsKnown asked o → (IsKnown asked o → IsKnown later (option_map f o)) → IsKnown later (slot_at (change_slot f os c) c)
changed_slot asked later f os c None at known change = absurd known
changed_slot asked later f os c (Some x) at known change = subst (IsKnown later) (sym (slot_change_same f os c x at)) (change known)

reading_slot : (asked : ℕ → Bool) (f : Client → Client) (os : List (Option Client)) (n c : ℕ) → ((x : Client) → (f x).requests ≡ x.requests) → IsKnown asked (slot_at os c) → IsKnown asked (slot_at (change_slot f os n) c)
reading_slot asked f os n c keeps known = elim (eqb_tells n c) as (λ w. IsKnown asked (slot_at (change_slot f os n) c)) [
  | inl same ↦
      subst (λ (k : ℕ). IsKnown asked (slot_at (change_slot f os k) c)) (sym same.1)
      (changed_slot asked asked f os c (slot_at os c) refl known (kept_known asked f (slot_at os c) keeps))
  | inr other ↦ subst (IsKnown asked) (sym (slot_change_other f os n c (λ e. other.1 (sym e)))) known
]

pushed_slot : (asked : ℕ → Bool) (first c : ℕ) (os : List (Option Client)) → IsKnown asked (slot_at os c) → IsKnown asked (slot_at (change_all (pushed first) os) c)
pushed_slot asked first c os known = subst (IsKnown asked) (sym (slot_change_all (pushed first) os c)) (kept_known asked (pushed first) (slot_at os c) (λ x. refl) known)

-- A call of another caller.

other_change : (asked : ℕ → Bool) (f : Client → Client) (os : List (Option Client)) (n c : ℕ) → n ≢ c → IsKnown asked (slot_at os c) → IsKnown asked (slot_at (change_slot f os n) c)
other_change asked f os n c other known = subst (IsKnown asked) (sym (slot_change_other f os n c (λ e. other (sym e)))) known

other_known : (w : Window) (e : BufferEntry) (asked : ℕ → Bool) (c : ℕ) → LeavesRequests c (news_of e) → IsKnown asked (slot_at w.clients c) → IsKnown asked (slot_at (window_after w e).clients c)
other_known w (Attach name (Ok n)) asked c leaves known = other_slot asked w.clients n c _ leaves known
other_known w (Attach name (Err r)) asked c leaves known = known
other_known w (Detach client (Ok u)) asked c leaves known = other_slot asked w.clients client c None leaves known
other_known w (Detach client (Err r)) asked c leaves known = known
other_known w (Request client id mask kind (Ok n)) asked c leaves known = other_change asked _ w.clients client c leaves known
other_known w (Request client id mask kind (Err r)) asked c leaves known = known
other_known w (Cancel client number (Ok u)) asked c leaves known = other_change asked _ w.clients client c leaves known
other_known w (Cancel client number (Err r)) asked c leaves known = known
other_known w (Send stated event (Ok n)) asked c leaves known = pushed_slot asked (w.first + gone_of w event) c w.clients known
other_known w (Send stated event (Err r)) asked c leaves known = known
other_known w (SendInRun start stated event (Ok n)) asked c leaves known = pushed_slot asked (w.first + gone_of w event) c w.clients known
other_known w (SendInRun start stated event (Err r)) asked c leaves known = known
other_known w (Receive client room (Got place start)) asked c leaves known = reading_slot asked (going_on (place + 1)) w.clients client c (λ x. refl) known
other_known w (Receive client room (Empty gate last)) asked c leaves known = reading_slot asked (going_on (accepted_of w)) w.clients client c (λ x. refl) known
other_known w (Receive client room NoReader) asked c leaves known = known
other_known w (Receive client room (SmallBuf need)) asked c leaves known = known
other_known w (Begin start (Ok n)) asked c leaves known = known
other_known w (Begin start (Err r)) asked c leaves known = known
other_known w (Pause start (Ok n)) asked c leaves known = known
other_known w (Pause start (Err r)) asked c leaves known = known
other_known w (Resume start (Ok n)) asked c leaves known = known
other_known w (Resume start (Err r)) asked c leaves known = known
other_known w (End start (Ok n)) asked c leaves known = known
other_known w (End start (Err r)) asked c leaves known = known
other_known w (Level n) asked c leaves known = known
other_known w (Accepted n) asked c leaves known = known

-- A call of the owner.

-- a request is made
made_known : (asked : ℕ → Bool) (k : ℕ) (r : EventRequest) (o : Option Client) → IsKnown asked o → IsKnown (λ n. if k == n then true else asked n) (option_map (with_request k (Some r)) o)
made_known asked k r None known = known
made_known asked k r (Some c) known = (
  length-set c.requests k (Some r) ∙ known.0,
  λ n q at. elim (eqb_tells k n) as (λ w. (if k == n then true else asked n) ≡ true) [
    | inl same ↦ rw same.0 refl
    | inr other ↦ rw other.0 (known.1 n q (sym (slot_set_other c.requests k n (Some r) (λ e. other.1 (sym e))) ∙ at))
  ],
)

-- a number that was freed
freed : (rs : List (Option EventRequest)) (k : ℕ) → slot_at (slice_set rs k None) k ≡ None
freed [] k = refl
freed (r ∷ rs) zero = refl
freed (r ∷ rs) (suc k) = freed rs k

-- or cancelled
cancelled_known : (asked : ℕ → Bool) (k : ℕ) (o : Option Client) → IsKnown asked o → IsKnown (λ n. if k == n then false else asked n) (option_map (with_request k None) o)
cancelled_known asked k None known = known
cancelled_known asked k (Some c) known = (
  length-set c.requests k None ∙ known.0,
  λ n q at. elim (eqb_tells k n) as (λ w. (if k == n then false else asked n) ≡ true) [
    | inl same ↦ absurd (let none : slot_at (slice_set c.requests k None) n ≡ None = subst (λ (m : ℕ). slot_at (slice_set c.requests k None) m ≡ None) same.1 (freed c.requests k) in let never : None ≡ Some q = sym none ∙ at in cc (never))
    | inr other ↦ rw other.0 (known.1 n q (sym (slot_set_other c.requests k n None (λ e. other.1 (sym e))) ∙ at))
  ],
)

no_such : (o : Option EventRequest) (why : RequestRefusal) → Err why ≡ cancel_reply_of o → o ≡ None
no_such None why told = refl
no_such (Some q) why told = absurd (cc (told))

-- or that is refused, which finds none of this number
refused_known : (asked : ℕ → Bool) (k : ℕ) (o : Option Client) (why : RequestRefusal) → Err why ≡ cancel_reply_to k o → IsKnown asked o → IsKnown (λ n. if k == n then false else asked n) o
refused_known asked k None why told known = known
refused_known asked k (Some c) why told known = (
  known.0,
  λ n q at. elim (eqb_tells k n) as (λ w. (if k == n then false else asked n) ≡ true) [
    | inl same ↦ absurd (let none : slot_at c.requests n ≡ None = subst (λ (m : ℕ). slot_at c.requests m ≡ None) same.1 (no_such (slot_at c.requests k) why told) in let never : None ≡ Some q = sym none ∙ at in cc (never))
    | inr other ↦ rw other.0 (known.1 n q at)
  ],
)

-- the same client, or another
which_asked : (asked later : ℕ → Bool) (client c : ℕ) (o : Option Client) → (client ≡ c → IsKnown later o) → (client ≢ c → IsKnown asked o) → IsKnown (λ n. if client == c then later n else asked n) o
which_asked asked later client c o same other = elim (eqb_tells client c) as (λ w. IsKnown (λ n. if client == c then later n else asked n) o) [
  | inl is ↦ rw is.0 (same is.1)
  | inr is ↦ rw is.0 (other is.1)
]

own_known : (w : Window) (e : BufferEntry) (asked : ℕ → Bool) (c : ℕ) (es : List BufferEntry) → IsReply w e → IsOwnCall e es → (IsAttached (news_of e) c → ⊥) → IsKnown asked (slot_at w.clients c) → IsKnown (λ n. asks_after e c n (asked n)) (slot_at (window_after w e).clients c)
own_known w (Attach name (Ok n)) asked c es told own new known = other_slot asked w.clients n c _ new known
own_known w (Attach name (Err r)) asked c es told own new known = known
own_known w (Detach client reply) asked c es told own new known = absurd own
own_known w (Request client id mask kind (Ok k)) asked c es told own new known =
    let r : EventRequest = record { id = id; mask = mask; kind = kind; since = accepted_of w } in
    which_asked asked (λ n. if k == n then true else asked n) client c (slot_at (change_slot (with_request k (Some r)) w.clients client) c)
    (λ same. subst (λ (m : ℕ). IsKnown (λ n. if k == n then true else asked n) (slot_at (change_slot (with_request k (Some r)) w.clients m) c)) (sym same)
    (changed_slot asked (λ n. if k == n then true else asked n) (with_request k (Some r)) w.clients c (slot_at w.clients c) refl known (made_known asked k r (slot_at w.clients c))))
    (λ other. other_change asked (with_request k (Some r)) w.clients client c other known)
own_known w (Request client id mask kind (Err r)) asked c es told own new known = known
own_known w (Cancel client k (Ok u)) asked c es told own new known =
    which_asked asked (λ n. if k == n then false else asked n) client c (slot_at (change_slot (with_request k None) w.clients client) c)
    (λ same. subst (λ (m : ℕ). IsKnown (λ n. if k == n then false else asked n) (slot_at (change_slot (with_request k None) w.clients m) c)) (sym same)
    (changed_slot asked (λ n. if k == n then false else asked n) (with_request k None) w.clients c (slot_at w.clients c) refl known (cancelled_known asked k (slot_at w.clients c))))
    (λ other. other_change asked (with_request k None) w.clients client c other known)
own_known w (Cancel client k (Err why)) asked c es told own new known =
    which_asked asked (λ n. if k == n then false else asked n) client c (slot_at w.clients c)
    (λ same. refused_known asked k (slot_at w.clients c) why (subst (λ (m : ℕ). Err why ≡ cancel_reply_to k (slot_at w.clients m)) same told) known)
    (λ other. known)
own_known w (Send stated event (Ok n)) asked c es told own new known = other_known w (Send stated event (Ok n)) asked c tt known
own_known w (Send stated event (Err r)) asked c es told own new known = known
own_known w (SendInRun start stated event (Ok n)) asked c es told own new known = other_known w (SendInRun start stated event (Ok n)) asked c tt known
own_known w (SendInRun start stated event (Err r)) asked c es told own new known = known
own_known w (Receive client room (Got place start)) asked c es told own new known = other_known w (Receive client room (Got place start)) asked c tt known
own_known w (Receive client room (Empty gate last)) asked c es told own new known = other_known w (Receive client room (Empty gate last)) asked c tt known
own_known w (Receive client room NoReader) asked c es told own new known = known
own_known w (Receive client room (SmallBuf need)) asked c es told own new known = known
own_known w (Begin start (Ok n)) asked c es told own new known = known
own_known w (Begin start (Err r)) asked c es told own new known = known
own_known w (Pause start (Ok n)) asked c es told own new known = known
own_known w (Pause start (Err r)) asked c es told own new known = known
own_known w (Resume start (Ok n)) asked c es told own new known = known
own_known w (Resume start (Err r)) asked c es told own new known = known
own_known w (End start (Ok n)) asked c es told own new known = known
own_known w (End start (Err r)) asked c es told own new known = known
own_known w (Level n) asked c es told own new known = known
own_known w (Accepted n) asked c es told own new known = known

-- A client that is attached has no request.

attached_by : (e : BufferEntry) (c : ℕ) → IsAttached (news_of e) c → (name : List ℕ) × (e ≡ Attach name (Ok c))
attached_by (Attach name (Ok n)) c is = (name, ap (λ (k : ℕ). Attach name (Ok k)) is)
attached_by (Attach name (Err r)) c is = absurd is
attached_by (Detach client (Ok u)) c is = absurd is
attached_by (Detach client (Err r)) c is = absurd is
attached_by (Request client id mask kind (Ok n)) c is = absurd is
attached_by (Request client id mask kind (Err r)) c is = absurd is
attached_by (Cancel client number (Ok u)) c is = absurd is
attached_by (Cancel client number (Err r)) c is = absurd is
attached_by (Send stated event (Ok n)) c is = absurd is
attached_by (Send stated event (Err r)) c is = absurd is
attached_by (SendInRun start stated event (Ok n)) c is = absurd is
attached_by (SendInRun start stated event (Err r)) c is = absurd is
attached_by (Receive client room (Got place start)) c is = absurd is
attached_by (Receive client room (Empty gate last)) c is = absurd is
attached_by (Receive client room NoReader) c is = absurd is
attached_by (Receive client room (SmallBuf need)) c is = absurd is
attached_by (Begin start reply) c is = absurd is
attached_by (Pause start reply) c is = absurd is
attached_by (Resume start reply) c is = absurd is
attached_by (End start reply) c is = absurd is
attached_by (Level n) c is = absurd is
attached_by (Accepted n) c is = absurd is

none_asked_for : (n : ℕ) → slot_at no_requests n ≡ None
unfolding no_requests
none_asked_for n = slot_free 10 n

ten_numbers : length no_requests ≡ 10
unfolding no_requests
ten_numbers = length-replicate {A = Option EventRequest} 10 None

given : (o : Option ℕ) (n : ℕ) → Ok n ≡ ok_or o no_slot → o ≡ Some n
given None n told = absurd (cc (told))
given (Some m) n told = let same : m ≡ n = cc (told) in ap Some same

new_known : (w : Window) (name : List ℕ) (c : ℕ) (asked : ℕ → Bool) → IsReply w (Attach name (Ok c)) → IsKnown asked (slot_at (window_after w (Attach name (Ok c))).clients c)
new_known w name c asked told =
    let within : c < length w.clients = (position-Some is_none w.clients c None (given (free_slot w.clients) c told)).0 in
    subst (IsKnown asked) (sym (slot_set_same w.clients c (Some (joined name (accepted_of w))) within))
    (ten_numbers, λ n q at. absurd (let never : None ≡ Some q = sym (none_asked_for n) ∙ at in cc (never)))

-- Along a history.

abbrev Known : Window → List (ℕ × BufferEntry) → Type 0
Known w past = (by c : ℕ) → gave_number (entries_by by past) c ≡ true → IsKnown (λ n. asks (entries_by by past) c n) (slot_at w.clients c)

known_step : (w : Window) (x : ℕ × BufferEntry) (past : List (ℕ × BufferEntry)) → OwnPast (x ∷ past) → Throughout IsTold (x ∷ past) → IsReply w x.1 → Known w past → Known (window_after w x.1) (x ∷ past)
known_step w x past own t reply known by c gave =
    let rest : OwnPast past = own_rest x past own in
    let after : Window = window_after w x.1 in
    elim (gave_before by c x past gave) as (λ v. IsKnown (λ n. asks (entries_by by (x ∷ past)) c n) (slot_at after.clients c)) [
      | inl before ↦
          let here : IsKnown (λ n. asks (entries_by by past) c n) (slot_at w.clients c) = known by c before in
          own_cases by x past (λ es. IsKnown (λ n. asks es c n) (slot_at after.clients c))
          (λ same. own_known w x.1 (λ n. asks (entries_by by past) c n) c (entries_by x.0 past) reply (own_call x past own) (λ is. not_again past rest x.1 t.0 by c before is) here)
          (λ other. other_known w x.1 (λ n. asks (entries_by by past) c n) c (others_leave x past own t by c before other) here)
      | inr now ↦
          let attach = attached_by x.1 c now.1 in
          subst (λ (e : BufferEntry). IsReply w e → IsKnown (λ n. asks (entries_by by (x ∷ past)) c n) (slot_at (window_after w e).clients c)) (sym attach.1)
          (λ told. new_known w attach.0 c (λ n. asks (entries_by by (x ∷ past)) c n) told) reply
    ]

known_along : (w : Window) (past es : List (ℕ × BufferEntry)) → OwnPast (past_after past es) → Throughout IsTold (past_after past es) → IsLegal w es → Known w past → Known (replay w es) (past_after past es)
known_along w past [] own t legal known = known
known_along w past (x ∷ es) own t legal known =
    known_along (window_after w x.1) (x ∷ past) es own t legal.1
    (known_step w x past (own_front (x ∷ past) es own) (throughout_front IsTold (x ∷ past) es t) legal.0 known)

-- what a refused request finds
stands_still : (asked : ℕ → Bool) (o : Option Client) (why : RequestRefusal) → Err why ≡ request_reply_to o → IsKnown asked o → (number : ℕ) × (asked number ≡ true)
stands_still asked None why told known = absurd known
stands_still asked (Some c) why told known =
    let none : free_slot c.requests ≡ None = no_number (free_slot c.requests) told in
    let taken : is_none (slot_at c.requests 0) ≡ false = none_free c.requests none 0 (omega (arith, known.0)) in
    let q = some_there (slot_at c.requests 0) taken in
    (0, known.1 0 q.0 q.1)
  where
    no_number : (free : Option ℕ) → Err why ≡ ok_or free NoRequestSlot → free ≡ None
    no_number None e = refl
    no_number (Some n) e = absurd (cc (e))

    some_there : (slot : Option EventRequest) → is_none slot ≡ false → (q : EventRequest) × (slot ≡ Some q)
    some_there None e = absurd (cc (e))
    some_there (Some q) e = (q, refl)

legal_part : (w : Window) (xs ys : List (ℕ × BufferEntry)) → IsLegal w (xs ++ ys) → IsLegal w xs
legal_part w [] ys legal = tt
legal_part w (x ∷ xs) ys legal = (legal.0, legal_part (window_after w x.1) xs ys legal.1)

pub requests_refused : BufferLaws → RequestsRefused
requests_refused laws size h caller legal own before after client id mask kind why is =
    let e : BufferEntry = Request client id mask kind (Err why) in
    let s : StandsIn h caller before e after = stands caller h before e after is in
    let whole : IsLegal (opening size) (s.before ++ (caller, e) ∷ s.after) = subst (IsLegal (opening size)) s.whole legal in
    let there : IsLegal (replay (opening size) s.before) ((caller, e) ∷ s.after) = legal_behind (opening size) s.before ((caller, e) ∷ s.after) whole in
    let past : List (ℕ × BufferEntry) = past_of s.before in
    let all_is : past_of h ≡ past_after past ((caller, e) ∷ s.after) = ap past_of s.whole ∙ past_after-append [] s.before ((caller, e) ∷ s.after) in
    let own_all : OwnPast (past_after past ((caller, e) ∷ s.after)) = subst OwnPast all_is (own_past h own) in
    let told_all : Throughout IsTold (past_after past ((caller, e) ∷ s.after)) = subst (Throughout IsTold) all_is (told laws size h legal) in
    let known : Known (replay (opening size) s.before) past =
    known_along (opening size) [] s.before (own_front past ((caller, e) ∷ s.after) own_all) (throughout_front IsTold past ((caller, e) ∷ s.after) told_all)
    (legal_part (opening size) s.before ((caller, e) ∷ s.after) whole) (λ by c gave. absurd (cc (gave))) in
    let gave : gave_number (entries_by caller past) client ≡ true = own_call (caller, e) past (own_front ((caller, e) ∷ past) s.after own_all) in
    let found = stands_still (λ n. asks (entries_by caller past) client n) (slot_at (replay (opening size) s.before).clients client) why there.0 (known caller client gave) in
    let own_is : entries_by caller past ≡ calls_after [] before = own_after caller [] s.before ∙ ap (λ (es : List BufferEntry). calls_after [] es) s.own_before in
    (found.0, subst (λ (es : List BufferEntry). asks es client found.0 ≡ true) own_is found.1)
