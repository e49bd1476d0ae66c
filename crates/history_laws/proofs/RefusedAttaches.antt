-- An attach is refused only where 64 clients were attached.
use Rattle.std.specs.Prelude.{◌≡◌, ℕ, zero, suc, ◌+◌, ◌<◌, ◌≤◌, true, false, if◌then◌else◌, is_none, nat_lt, map, length, replicate, slice_get, slice_set, sum_by, List, [], ◌∷◌, Option, Some, None, Ok, Err, refl, ◌⊎◌}
use Rattle.std.specs.Option.{option_map, ok_or}
use Rattle.std.specs.List.{position_or_len}
use Rattle.std.proofs.Common.{ap, sym, ◌∙◌, subst, arith, inl, inr}
use Rattle.std.proofs.lemmas.Bool.{ltb-false}
use Rattle.std.proofs.lemmas.List.{length-set, length-map, length-replicate, map-append}
use Rattle.std.proofs.lemmas.List.Sums.{sum_by-append, sum_by-cons, fails_before_first}
use Rattle.daq_types.specs.Callers.{entries_by}
use Rattle.buffer_core.specs.declared.client.Client.{Client}
use Rattle.buffer_core.specs.declared.replies.NoSlot.{NoSlot}
use Rattle.buffer_core.specs.declared.replies.Received.TheVariants.{Got, Empty, NoClient as NoReader, SmallBuf}
use Rattle.buffer_core.specs.declared.entry.BufferEntry.{BufferEntry}
use Rattle.buffer_core.specs.declared.entry.BufferEntry.TheVariants.{Attach, Detach, Request, Cancel, Send, SendInRun, Receive, Begin, Pause, Resume, End, Level, Accepted}
use Rattle.buffer_core.specs.Slots.{slot_at, free_slot, change_slot, change_all}
use Rattle.buffer_core.proofs.SlotLaws.{split}
use Rattle.buffer_core.specs.Window.{Window, no_clients, opening}
use Rattle.buffer_core.specs.Calls.{no_slot, attach_reply, window_after}
use Rattle.buffer_core.specs.Histories.{IsLegal, replay}
use Rattle.member_model.specs.FairCalls.{attaches_by, attaches_made}
use Rattle.history_laws.specs.RefusedCalls.{AttachesRefused, AttachesAdd}
use Rattle.history_laws.proofs.Pasts.{StandsIn, stands, own_cases}
use Rattle.history_laws.proofs.EndedRuns.{legal_behind}

-- How many numbers have clients.

abbrev one_of : Option Client → ℕ
one_of None = 0
one_of (Some c) = 1

abbrev clients_in : List (Option Client) → ℕ
clients_in [] = 0
clients_in (o ∷ os) = one_of o + clients_in os

set_few : (os : List (Option Client)) (n : ℕ) (o : Option Client) → clients_in (slice_set os n o) ≤ clients_in os + one_of o
set_few [] n o = omega arith
set_few (x ∷ os) zero o = omega arith
set_few (x ∷ os) (suc n) o = omega (arith, set_few os n o)

mapped_one : (f : Client → Client) (o : Option Client) → one_of (option_map f o) ≡ one_of o
mapped_one f None = refl
mapped_one f (Some c) = refl

change_few : (f : Client → Client) (os : List (Option Client)) (n : ℕ) → clients_in (change_slot f os n) ≤ clients_in os
change_few f [] n = omega arith
change_few f (x ∷ os) zero = omega (arith, mapped_one f x)
change_few f (x ∷ os) (suc n) = omega (arith, change_few f os n)

all_few : (f : Client → Client) (os : List (Option Client)) → clients_in (change_all f os) ≤ clients_in os
all_few f [] = omega arith
all_few f (x ∷ os) = omega (arith, mapped_one f x, all_few f os)

none_there : (count : ℕ) → clients_in (replicate count None) ≡ 0
none_there zero = refl
none_there (suc count) = omega (arith, none_there count)

-- where no number is free, each has a client
pub none_free : {X : Type 0} (os : List (Option X)) → free_slot os ≡ None → (n : ℕ) → n < length os → is_none (slot_at os n) ≡ false
none_free {X} os none n within =
    split (nat_lt (position_or_len is_none os) (length os))
    (λ b. nat_lt (position_or_len is_none os) (length os) ≡ b → (if b then Some (position_or_len is_none os) else None) ≡ None → is_none (slot_at os n) ≡ false)
    (λ h less some. absurd (cc (some)))
    (λ h long so.
    let far : length os ≤ position_or_len is_none os = ltb-false (position_or_len is_none os) (length os) long in
    fails_before_first is_none os n None (omega (arith, within, far)))
    refl none

full : (os : List (Option Client)) → ((n : ℕ) → n < length os → is_none (slot_at os n) ≡ false) → clients_in os ≡ length os
full [] each = refl
full (None ∷ os) each = absurd (let never : true ≡ false = each 0 (omega arith) in cc (never))
full (Some c ∷ os) each = omega (arith, full os (λ n within. each (suc n) (omega (arith, within))))

-- No more numbers have clients than clients were attached.

record Counted (w : Window) (made : ℕ) : Type 0 where
  places : length w.clients ≡ 64
  few : clients_in w.clients ≤ made

counted_as : (w v : Window) (more made : ℕ) → length v.clients ≡ length w.clients → clients_in v.clients ≤ clients_in w.clients + more → Counted w made → Counted v (more + made)
counted_as w v more made long few counted = record { places = long ∙ counted.places; few = omega (arith, few, counted.few) }

same_clients : (w v : Window) (made : ℕ) → v.clients ≡ w.clients → Counted w made → Counted v (0 + made)
same_clients w v made same counted =
    counted_as w v 0 made (ap (λ (l : List (Option Client)). length l) same) (let as_many : clients_in v.clients ≡ clients_in w.clients = ap clients_in same in omega (arith, as_many)) counted

changed_clients : (w v : Window) (made : ℕ) (f : Client → Client) (n : ℕ) → v.clients ≡ change_slot f w.clients n → Counted w made → Counted v (0 + made)
changed_clients w v made f n is counted =
    let as_many : clients_in v.clients ≡ clients_in (change_slot f w.clients n) = ap clients_in is in
    counted_as w v 0 made (ap (λ (l : List (Option Client)). length l) is ∙ length-set w.clients n (option_map f (slot_at w.clients n))) (omega (arith, as_many, change_few f w.clients n)) counted

pushed_clients : (w v : Window) (made : ℕ) (f : Client → Client) → v.clients ≡ change_all f w.clients → Counted w made → Counted v (0 + made)
pushed_clients w v made f is counted =
    let as_many : clients_in v.clients ≡ clients_in (change_all f w.clients) = ap clients_in is in
    counted_as w v 0 made (ap (λ (l : List (Option Client)). length l) is ∙ length-map w.clients (option_map f)) (omega (arith, as_many, all_few f w.clients)) counted

put_client : (w v : Window) (made n : ℕ) (o : Option Client) → v.clients ≡ slice_set w.clients n o → Counted w made → Counted v (one_of o + made)
put_client w v made n o is counted =
    let as_many : clients_in v.clients ≡ clients_in (slice_set w.clients n o) = ap clients_in is in
    counted_as w v (one_of o) made (ap (λ (l : List (Option Client)). length l) is ∙ length-set w.clients n o) (omega (arith, as_many, set_few w.clients n o)) counted

counted_step : (w : Window) (e : BufferEntry) (made : ℕ) → Counted w made → Counted (window_after w e) (attaches_by e + made)
counted_step w (Attach name (Ok n)) made counted = put_client w (window_after w (Attach name (Ok n))) made n (Some _) refl counted
counted_step w (Attach name (Err r)) made counted = same_clients w w made refl counted
counted_step w (Detach client (Ok u)) made counted = put_client w (window_after w (Detach client (Ok u))) made client None refl counted
counted_step w (Detach client (Err r)) made counted = same_clients w w made refl counted
counted_step w (Request client id mask kind (Ok n)) made counted = changed_clients w (window_after w (Request client id mask kind (Ok n))) made _ client refl counted
counted_step w (Request client id mask kind (Err r)) made counted = same_clients w w made refl counted
counted_step w (Cancel client number (Ok u)) made counted = changed_clients w (window_after w (Cancel client number (Ok u))) made _ client refl counted
counted_step w (Cancel client number (Err r)) made counted = same_clients w w made refl counted
counted_step w (Send stated event (Ok n)) made counted = pushed_clients w (window_after w (Send stated event (Ok n))) made _ refl counted
counted_step w (Send stated event (Err r)) made counted = same_clients w w made refl counted
counted_step w (SendInRun start stated event (Ok n)) made counted = pushed_clients w (window_after w (SendInRun start stated event (Ok n))) made _ refl counted
counted_step w (SendInRun start stated event (Err r)) made counted = same_clients w w made refl counted
counted_step w (Receive client room (Got place start)) made counted = changed_clients w (window_after w (Receive client room (Got place start))) made _ client refl counted
counted_step w (Receive client room (Empty gate last)) made counted = changed_clients w (window_after w (Receive client room (Empty gate last))) made _ client refl counted
counted_step w (Receive client room NoReader) made counted = same_clients w w made refl counted
counted_step w (Receive client room (SmallBuf need)) made counted = same_clients w w made refl counted
counted_step w (Begin start (Ok n)) made counted = same_clients w (window_after w (Begin start (Ok n))) made refl counted
counted_step w (Begin start (Err r)) made counted = same_clients w w made refl counted
counted_step w (Pause start (Ok n)) made counted = same_clients w (window_after w (Pause start (Ok n))) made refl counted
counted_step w (Pause start (Err r)) made counted = same_clients w w made refl counted
counted_step w (Resume start (Ok n)) made counted = same_clients w (window_after w (Resume start (Ok n))) made refl counted
counted_step w (Resume start (Err r)) made counted = same_clients w w made refl counted
counted_step w (End start (Ok n)) made counted = same_clients w (window_after w (End start (Ok n))) made refl counted
counted_step w (End start (Err r)) made counted = same_clients w w made refl counted
counted_step w (Level n) made counted = same_clients w w made refl counted
counted_step w (Accepted n) made counted = same_clients w w made refl counted

-- the calls of all callers
abbrev calls_in : List (ℕ × BufferEntry) → List BufferEntry
calls_in h = map (λ (e : ℕ × BufferEntry). e.1) h

counted_along : (w : Window) (h : List (ℕ × BufferEntry)) (made : ℕ) → Counted w made → Counted (replay w h) (attaches_made (calls_in h) + made)
counted_along w [] made counted = counted_as w w 0 made refl (omega arith) counted
counted_along w (x ∷ h) made counted =
    let rest : Counted (replay (window_after w x.1) h) (attaches_made (calls_in h) + (attaches_by x.1 + made)) = counted_along (window_after w x.1) h (attaches_by x.1 + made) (counted_step w x.1 made counted) in
    let sum : attaches_made (calls_in h) + (attaches_by x.1 + made) ≡ attaches_made (calls_in (x ∷ h)) + made = omega (arith, sum_by-cons attaches_by x.1 (calls_in h)) in
    subst (λ (n : ℕ). Counted (replay w (x ∷ h)) n) sum rest

opened : (size : ℕ) → Counted (opening size) 0
unfolding no_clients
opened size = record { places = length-replicate {A = Option Client} 64 None; few = omega (arith, none_there 64) }

refused_full : (w : Window) (why : NoSlot) (made : ℕ) → Err why ≡ attach_reply w → Counted w made → 64 ≤ made
refused_full w why made told counted =
    let none : free_slot w.clients ≡ None = no_number (free_slot w.clients) told in
    omega (arith, counted.places, counted.few, full w.clients (none_free w.clients none))
  where
    no_number : (o : Option ℕ) → Err why ≡ ok_or o no_slot → o ≡ None
    no_number None told = refl
    no_number (Some n) told = absurd (cc (told))

pub attaches_refused : AttachesRefused
attaches_refused size h caller legal before after name why is =
    let s : StandsIn h caller before (Attach name (Err why)) after = stands caller h before (Attach name (Err why)) after is in
    let there : IsLegal (replay (opening size) s.before) ((caller, Attach name (Err why)) ∷ s.after) =
    legal_behind (opening size) s.before ((caller, Attach name (Err why)) ∷ s.after) (subst (IsLegal (opening size)) s.whole legal) in
    let all : 64 ≤ attaches_made (calls_in s.before) + 0 =
    refused_full (replay (opening size) s.before) why (attaches_made (calls_in s.before) + 0) there.0 (counted_along (opening size) s.before 0 (opened size)) in
    let parts : attaches_made (calls_in h) ≡ attaches_made (calls_in s.before) + attaches_made (Attach name (Err why) ∷ calls_in s.after) =
    ap (λ (l : List (ℕ × BufferEntry)). attaches_made (calls_in l)) s.whole
    ∙ (ap attaches_made (map-append (λ (e : ℕ × BufferEntry). e.1) s.before ((caller, Attach name (Err why)) ∷ s.after))
    ∙ sum_by-append attaches_by (calls_in s.before) (Attach name (Err why) ∷ calls_in s.after)) in
    omega (arith, all, parts)

-- What all attached is what each did.

sum_stays : (callers : List ℕ) (f g : ℕ → ℕ) → ((c : ℕ) → f c ≤ g c) → sum_by f callers ≤ sum_by g callers
sum_stays [] f g each = omega arith
sum_stays (c ∷ cs) f g each = omega (arith, each c, sum_stays cs f g each, sum_by-cons f c cs, sum_by-cons g c cs)

-- a sum in which each part stays or grows, and this one by so many
sum_grows : (callers : List ℕ) (f g : ℕ → ℕ) (place x more : ℕ) → ((c : ℕ) → f c ≤ g c) → slice_get callers place ≡ Some x → f x + more ≤ g x → sum_by f callers + more ≤ sum_by g callers
sum_grows [] f g place x more each at here = absurd (cc (at))
sum_grows (c ∷ cs) f g zero x more each at here =
    let same : c ≡ x = cc (at) in
    let first : f c + more ≤ g c = subst (λ (k : ℕ). f k + more ≤ g k) (sym same) here in
    omega (arith, first, sum_stays cs f g each, sum_by-cons f c cs, sum_by-cons g c cs)
sum_grows (c ∷ cs) f g (suc place) x more each at here = omega (arith, each c, sum_grows cs f g place x more each at here, sum_by-cons f c cs, sum_by-cons g c cs)

-- what one caller attached, with one entry more in front
own_first : (by : ℕ) (x : ℕ × BufferEntry) (h : List (ℕ × BufferEntry)) → attaches_made (entries_by by h) ≤ attaches_made (entries_by by (x ∷ h))
own_first by x h = own_cases by x h (λ es. attaches_made (entries_by by h) ≤ attaches_made es) (λ same. omega (arith, sum_by-cons attaches_by x.1 (entries_by by h))) (λ other. omega arith)

own_here : (x : ℕ × BufferEntry) (h : List (ℕ × BufferEntry)) → attaches_made (entries_by x.0 (x ∷ h)) ≡ attaches_by x.1 + attaches_made (entries_by x.0 h)
own_here x h = own_cases x.0 x h (λ es. attaches_made es ≡ attaches_by x.1 + attaches_made (entries_by x.0 h)) (λ same. sum_by-cons attaches_by x.1 (entries_by x.0 h)) (λ other. absurd (other refl))

pub attaches_add : AttachesAdd
attaches_add [] callers known = omega arith
attaches_add (x ∷ h) callers known =
    let own : ℕ → ℕ = λ by. attaches_made (entries_by by h) in
    let later : ℕ → ℕ = λ by. attaches_made (entries_by by (x ∷ h)) in
    let rest : attaches_made (calls_in h) ≤ sum_by own callers =
    attaches_add h callers (λ by. elim (known by) as (λ w. ((place : ℕ) × (slice_get callers place ≡ Some by)) ⊎ (attaches_made (entries_by by h) ≡ 0)) [
      | inl there ↦ inl there
      | inr none ↦ inr (omega (arith, none, own_first by x h))
    ]) in
    elim (known x.0) as (λ w. attaches_made (calls_in (x ∷ h)) ≤ sum_by later callers) [
      | inl there ↦
          let grown : sum_by own callers + attaches_by x.1 ≤ sum_by later callers =
          sum_grows callers own later there.0 x.0 (attaches_by x.1) (λ by. own_first by x h) there.1 (omega (arith, own_here x h)) in
          omega (arith, rest, grown, sum_by-cons attaches_by x.1 (calls_in h))
      | inr none ↦ omega (arith, rest, none, own_here x h, sum_stays callers own later (λ by. own_first by x h), sum_by-cons attaches_by x.1 (calls_in h))
    ]
