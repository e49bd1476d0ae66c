-- How a client of a window and its life in the history go together.
use Rattle.std.specs.Prelude.{◌≡◌, ℕ, ◌+◌, ◌-◌, ◌<◌, ◌≤◌, ◌==◌, true, false, if◌then◌else◌, nat_le, IsTrue, List, [], ◌∷◌, ◌++◌, length, take, drop, sum_by, slice_get, Option, Some, None, max, refl, ⊤}
use Rattle.std.proofs.Common.{ap, sym, ◌∙◌, arith, inl, inr}
use Rattle.std.proofs.Math.Logic.{⊎_elim}
use Rattle.std.proofs.lemmas.Bool.{and_from, and_parts, le-leb, leb-true, cases_lt}
use Rattle.std.proofs.lemmas.List.{take-append-le, length_push}
use Rattle.daq_types.specs.declared.events.Event.{Event}
use Rattle.event.specs.Events.{matches, Matches}
use Rattle.buffer_core.specs.declared.client.Request.{Request as EventRequest}
use Rattle.buffer_core.specs.declared.client.Client.{Client}
use Rattle.buffer_core.specs.Slots.{slot_at, some_slot}
use Rattle.buffer_core.specs.Window.{Sent, slot_of_sent, covers, wants, is_all, holds_back, owes}
use Rattle.buffer_core.specs.Calls.{joined, with_request, going_on, pushed}
use Rattle.buffer_core.proofs.SlotLaws.{split, some_slot_true}
use Rattle.buffer_core.proofs.OpeningSlots.{no_request_at}
use Rattle.buffer_core.specs.Points.{Life, got_end, reached, life_got, life_drained}
use Rattle.buffer_core.specs.Delivered.{IsIn, slot_of_place, slots_of_places}
use Rattle.buffer_core.proofs.Places.{get_drop, get_within, get_old, get_below, take_next, take_rises}
use Rattle.buffer_core.proofs.Numbered.{at_put, at_clear}
use Rattle.buffer_core.proofs.Found.{IsFound}

-- each place is above all that are behind it
abbrev pub Falls : List ℕ → Type 0
Falls [] = ⊤
Falls (p ∷ ps) = ((q : ℕ) → IsIn q ps → q < p) × Falls ps

-- these are among the places: those below one that a request for all events wants
abbrev pub HasAll : List Sent → (asked : ℕ → Option EventRequest) → (places : List ℕ) → (to : ℕ) → Type 0
HasAll ss asked places to =
    (p n : ℕ) (q : EventRequest) (s : Sent) → asked n ≡ Some q → q.since ≤ p → slice_get ss p ≡ Some s → Matches q.id q.mask s.event → IsTrue (is_all q.kind) → p < to → IsIn p places

-- a client of a window whose first place is given, with its requests and its life, where these were sent
pub record Follows (first : ℕ) (ss : List Sent) (asked : ℕ → Option EventRequest) (c : Client) (l : Life) : Type 0 where
  pub next : c.next ≡ max (reached l) first
  pub within : c.next ≤ length ss
  pub asks : (n : ℕ) → slot_at c.requests n ≡ asked n
  pub rises : (q : ℕ) → IsIn q l.places → q < got_end l.places
  pub falls : Falls l.places
  pub complete : HasAll ss asked l.places c.next
  pub paid : slots_of_places ss l.places ≤ sum_by slot_of_sent (take (got_end l.places) ss)

-- What is wanted.

pub covers_true : (place : ℕ) (e : Event) (q : EventRequest) → q.since ≤ place → Matches q.id q.mask e → covers place e q ≡ true
covers_true place e q since m = and_from (nat_le q.since place) (matches q.id q.mask e) (le-leb q.since place since) m

pub wants_true : (place : ℕ) (e : Event) (c : Client) (n : ℕ) (q : EventRequest) → c.next ≤ place → slot_at c.requests n ≡ Some q → q.since ≤ place → Matches q.id q.mask e → wants place e c ≡ true
wants_true place e c n q next is since m =
    and_from (nat_le c.next place) (some_slot (covers place e) c.requests) (le-leb c.next place next) (some_slot_true (covers place e) c.requests n q is (covers_true place e q since m))

pub owes_true : (place : ℕ) (e : Event) (c : Client) (n : ℕ) (q : EventRequest) → c.next ≤ place → slot_at c.requests n ≡ Some q → q.since ≤ place → Matches q.id q.mask e → IsTrue (is_all q.kind) → owes place e c ≡ true
owes_true place e c n q next is since m all =
    let back : holds_back place e q ≡ true = and_from (is_all q.kind) (covers place e q) all (covers_true place e q since m) in
    and_from (nat_le c.next place) (some_slot (holds_back place e) c.requests) (le-leb c.next place next) (some_slot_true (holds_back place e) c.requests n q is back)

pub wants_next : (place : ℕ) (e : Event) (c : Client) → wants place e c ≡ true → c.next ≤ place
wants_next place e c h = leb-true c.next place (and_parts (nat_le c.next place) (some_slot (covers place e) c.requests) h).0

pub owes_next : (place : ℕ) (e : Event) (c : Client) → owes place e c ≡ true → c.next ≤ place
owes_next place e c h = leb-true c.next place (and_parts (nat_le c.next place) (some_slot (holds_back place e) c.requests) h).0

-- The steps of a client.

-- where nothing from its next place on and below another is wanted, it has all up to there
pub reads_on : (first : ℕ) (ss : List Sent) (asked : ℕ → Option EventRequest) (c : Client) (l : Life) → Follows first ss asked c l → (to : ℕ) →
    ((i q : ℕ) (x : Sent) → q ≡ first + i → slice_get (drop first ss) i ≡ Some x → q < to → wants q x.event c ≡ false) → HasAll ss asked l.places to
reads_on first ss asked c l f to unwanted p n q s is_asked since is m all less =
    ⊎_elim
    (λ (below : p < c.next). f.complete p n q s is_asked since is m all below)
    (λ (ahead : c.next ≤ p).
    let place_is : p ≡ first + (p - first) = omega (arith, ahead, f.next) in
    let kept : slice_get (drop first ss) (p - first) ≡ Some s = get_drop first ss (p - first) p place_is ∙ is in
    let missed : wants p s.event c ≡ false = unwanted (p - first) p s place_is kept less in
    let hit : wants p s.event c ≡ true = wants_true p s.event c n q ahead (f.asks n ∙ is_asked) since m in
    absurd (cc (missed, hit)))
    (cases_lt p c.next)

pub follows_joined : (first : ℕ) (ss : List Sent) (name : List ℕ) → first ≤ length ss → Follows first ss (λ n. None) (joined name (length ss)) (record { joined = length ss; places = []; drained = 0 })
follows_joined first ss name h =
    record {
      next = omega (arith, h);
      within = omega arith;
      asks = no_request_at;
      rises = λ q is. absurd is;
      falls = tt;
      complete = λ p n q s is_asked since is m all less. absurd (cc (is_asked));
      paid = omega arith;
    }

pub follows_asked : (first : ℕ) (ss : List Sent) (asked : ℕ → Option EventRequest) (c : Client) (l : Life) → Follows first ss asked c l → (n : ℕ) (r : EventRequest) → n < length c.requests → r.since ≡ length ss →
    Follows first ss (λ m. if n == m then Some r else asked m) (with_request n (Some r) c) l
follows_asked first ss asked c l f n r free new =
    record {
      next = f.next;
      within = f.within;
      asks = λ m. at_put c.requests n m (Some r) free ∙ ap (λ (o : Option EventRequest). if n == m then Some r else o) (f.asks m);
      rises = f.rises;
      falls = f.falls;
      complete = λ p m q s is_asked since is matched all less.
          split (n == m) (λ b. (if b then Some r else asked m) ≡ Some q → IsIn p l.places)
          (λ h here.
          let same : r ≡ q = cc (here) in
          absurd (omega (arith, ap (λ (x : EventRequest). x.since) same, new, since, get_within ss p s is)))
          (λ h there. f.complete p m q s there since is matched all less)
          is_asked;
      paid = f.paid;
    }

pub follows_cancelled : (first : ℕ) (ss : List Sent) (asked : ℕ → Option EventRequest) (c : Client) (l : Life) → Follows first ss asked c l → (n : ℕ) →
    Follows first ss (λ m. if n == m then None else asked m) (with_request n None c) l
follows_cancelled first ss asked c l f n =
    record {
      next = f.next;
      within = f.within;
      asks = λ m. at_clear c.requests n m ∙ ap (λ (o : Option EventRequest). if n == m then None else o) (f.asks m);
      rises = f.rises;
      falls = f.falls;
      complete = λ p m q s is_asked since is matched all less.
          split (n == m) (λ b. (if b then None else asked m) ≡ Some q → IsIn p l.places)
          (λ h here. absurd (cc (here)))
          (λ h there. f.complete p m q s there since is matched all less)
          is_asked;
      paid = f.paid;
    }

pub follows_drained : (first : ℕ) (ss : List Sent) (asked : ℕ → Option EventRequest) (c : Client) (l : Life) → Follows first ss asked c l → first ≤ length ss →
    ((i q : ℕ) (x : Sent) → q ≡ first + i → slice_get (drop first ss) i ≡ Some x → wants q x.event c ≡ false) → Follows first ss asked (going_on (length ss) c) (life_drained (length ss) l)
follows_drained first ss asked c l f kept unwanted =
    record {
      next = omega (arith, f.next, f.within, kept);
      within = omega arith;
      asks = f.asks;
      rises = f.rises;
      falls = f.falls;
      complete = reads_on first ss asked c l f (length ss) (λ i q x place_is is less. unwanted i q x place_is is);
      paid = f.paid;
    }

pub follows_got : (first : ℕ) (ss : List Sent) (asked : ℕ → Option EventRequest) (c : Client) (l : Life) → Follows first ss asked c l → (place : ℕ) (s : Sent) → IsFound c first (drop first ss) place s →
    Follows first ss asked (going_on (place + 1) c) (life_got place l)
follows_got first ss asked c l f place s found =
    let is : slice_get ss place ≡ Some s = sym (get_drop first ss found.index place found.place_is) ∙ found.is in
    let ahead : c.next ≤ place = wants_next place s.event c found.wanted in
    let below : (q : ℕ) → IsIn q l.places → q < place = λ q old. omega (arith, f.rises q old, f.next, ahead) in
    let slot : slot_of_place (slice_get ss place) ≡ slot_of_sent s = ap slot_of_place is in
    record {
      next = omega (arith, f.next, ahead);
      within = omega (arith, get_within ss place s is);
      asks = f.asks;
      rises = λ q. ⊎_elim (λ (same : q ≡ place). omega (arith, same)) (λ (old : IsIn q l.places). omega (arith, below q old));
      falls = (below, f.falls);
      complete = λ p n q x is_asked since sent m all less.
          ⊎_elim
          (λ (lower : p < place). inr (reads_on first ss asked c l f place found.least p n q x is_asked since sent m all lower))
          (λ (upper : place ≤ p). inl (omega (arith, upper, less)))
          (cases_lt p place);
      paid = omega (arith, slot, f.paid, take_next slot_of_sent ss place s is, take_rises slot_of_sent ss (got_end l.places) place (omega (arith, f.next, ahead)));
    }

slots_push : (ss : List Sent) (s : Sent) (places : List ℕ) → ((q : ℕ) → IsIn q places → q < length ss) → slots_of_places (ss ++ s ∷ []) places ≡ slots_of_places ss places
slots_push ss s [] below = refl
slots_push ss s (p ∷ ps) below =
    let here : slot_of_place (slice_get (ss ++ s ∷ []) p) ≡ slot_of_place (slice_get ss p) = ap slot_of_place (get_below ss s p (below p (inl refl))) in
    omega (arith, here, slots_push ss s ps (λ q is. below q (inr is)))

-- one event more, and the window begins at another place: none before it was owed to the client
pub follows_sent : (first : ℕ) (ss : List Sent) (asked : ℕ → Option EventRequest) (c : Client) (l : Life) → Follows first ss asked c l → (s : Sent) (later : ℕ) → first ≤ later → later ≤ length ss →
    ((q : ℕ) (x : Sent) → first ≤ q → q < later → slice_get ss q ≡ Some x → owes q x.event c ≡ false) → Follows later (ss ++ s ∷ []) asked (pushed later c) l
follows_sent first ss asked c l f s later behind kept unowed =
    let long : length (ss ++ s ∷ []) ≡ length ss + 1 = length_push ss s in
    let end : got_end l.places ≤ length ss = omega (arith, f.next, f.within) in
    record {
      next = omega (arith, f.next, behind);
      within = omega (arith, f.within, kept, long);
      asks = f.asks;
      rises = f.rises;
      falls = f.falls;
      complete = λ p n q x is_asked since is m all less.
          let old : slice_get ss p ≡ Some x = get_old ss s p x (omega (arith, less, f.within, kept)) is in
          ⊎_elim
          (λ (below : p < c.next). f.complete p n q x is_asked since old m all below)
          (λ (ahead : c.next ≤ p).
          let missed : owes p x.event c ≡ false = unowed p x (omega (arith, ahead, f.next)) (omega (arith, ahead, less)) old in
          let hit : owes p x.event c ≡ true = owes_true p x.event c n q ahead (f.asks n ∙ is_asked) since m all in
          absurd (cc (missed, hit)))
          (cases_lt p c.next);
      paid =
          let slots : slots_of_places (ss ++ s ∷ []) l.places ≡ slots_of_places ss l.places = slots_push ss s l.places (λ q is. omega (arith, f.rises q is, end)) in
          let front : sum_by slot_of_sent (take (got_end l.places) (ss ++ s ∷ [])) ≡ sum_by slot_of_sent (take (got_end l.places) ss) = ap (sum_by slot_of_sent) (take-append-le (got_end l.places) ss (s ∷ []) end) in
          omega (arith, slots, front, f.paid);
    }
