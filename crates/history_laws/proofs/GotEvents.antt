-- Events that were got, by the places that the calls name.
use Rattle.std.specs.Prelude.{◌≡◌, ℕ, zero, suc, ◌+◌, ◌-◌, ◌<◌, ◌≤◌, ◌==◌, ◌&&◌, ◌||◌, nat_le, nat_lt, Bool, true, false, if◌then◌else◌, List, [], ◌∷◌, ◌++◌, length, map, take, drop, slice_get, Option, Some, None, refl}
use Rattle.std.specs.List.{AllByRecursion, filter, enumerate_from, list_any}
use Rattle.std.proofs.Common.{ap, sym, ◌∙◌, subst, arith, append_assoc, le-leb}
use Rattle.std.proofs.lemmas.Bool.{eqb-true, eqb-false, lt-leb, leb-true, leb-false, lt-ltb, le-ltb, ltb-true, ltb-false}
use Rattle.std.proofs.lemmas.List.{take-append-le, length-take, length-drop}
use Rattle.std.proofs.lemmas.List.Elements.{filter-append, filter_agree}
use Rattle.daq_types.specs.declared.events.Event.{Event}
use Rattle.event.specs.Events.{matches}
use Rattle.buffer_core.specs.declared.entry.BufferEntry.{BufferEntry}
use Rattle.buffer_core.proofs.SlotLaws.{split}
use Rattle.buffer_core.specs.Window.{Sent}
use Rattle.buffer_core.specs.Runs.{events_between}
use Rattle.buffer_core.specs.Readers.{among, places_of, wanted}
use Rattle.buffer_core.specs.Ports.{GotEvent, name_of, names_given}
use Rattle.member_model.specs.OwnCalls.{AreGivenBy, is_place_within, event_at, events_at}
use Rattle.history_laws.specs.OneCaller.{events_in}
use Rattle.history_laws.proofs.OwnPlaces.{place_if, named_places, all_join}

-- The events at places.

abbrev pub event_of : Option Sent → List Event
event_of None = []
event_of (Some s) = s.event ∷ []

abbrev pub events_of : List Sent → List ℕ → List Event
events_of ss [] = []
events_of ss (p ∷ ps) = event_of (slice_get ss p) ++ events_of ss ps

pub events_of-append : (ss : List Sent) (ps qs : List ℕ) → events_of ss (ps ++ qs) ≡ events_of ss ps ++ events_of ss qs
events_of-append ss [] qs = refl
events_of-append ss (p ∷ ps) qs = ap (λ (es : List Event). event_of (slice_get ss p) ++ es) (events_of-append ss ps qs) ∙ sym (append_assoc (event_of (slice_get ss p)) (events_of ss ps) (events_of ss qs))

-- the event stands at its place among these
abbrev pub IsAtPlace : List Sent → GotEvent → Type 0
IsAtPlace ss g = slice_get ss g.place ≡ Some (record { event = g.event; start = g.start })

event_there : (ss : List Sent) (c : ℕ) (test : ℕ → Bool) (g : GotEvent) → IsAtPlace ss g → event_at c test g ≡ events_of ss (filter test (place_if (g.client == c) g.place))
event_there ss c test g is =
    let at : event_of (slice_get ss g.place) ++ [] ≡ g.event ∷ [] = ap (λ (o : Option Sent). event_of o ++ []) is in
    split (g.client == c) (λ b. (if b && test g.place then g.event ∷ [] else []) ≡ events_of ss (filter test (place_if b g.place)))
    (λ h. split (test g.place) (λ d. (if d then g.event ∷ [] else []) ≡ events_of ss (if d then g.place ∷ [] else [])) (λ h'. sym at) (λ h'. refl))
    (λ h. refl)

events_there : (ss : List Sent) (c : ℕ) (test : ℕ → Bool) (gs : List GotEvent) → AllByRecursion (IsAtPlace ss) gs → events_at c test gs ≡ events_of ss (filter test (named_places c (map name_of gs)))
events_there ss c test [] all = refl
events_there ss c test (g ∷ gs) all =
    let here : List ℕ = place_if (g.client == c) g.place in
    let rest : List ℕ = named_places c (map name_of gs) in
    ap (λ (es : List Event). es ++ events_at c test gs) (event_there ss c test g all.0)
    ∙ (ap (λ (es : List Event). events_of ss (filter test here) ++ es) (events_there ss c test gs all.1)
    ∙ (sym (events_of-append ss (filter test here) (filter test rest)) ∙ ap (events_of ss) (sym (filter-append test here rest))))

-- what calls gave, by the places that they name
pub events_named : (ss : List Sent) (c : ℕ) (test : ℕ → Bool) (calls : List BufferEntry) (gs : List GotEvent) → AreGivenBy calls gs → AllByRecursion (IsAtPlace ss) gs
    → events_at c test gs ≡ events_of ss (filter test (named_places c (names_given calls)))
events_named ss c test calls gs given all =
    events_there ss c test gs all ∙ ap (λ (ns : List (ℕ × ℕ × ℕ)). events_of ss (filter test (named_places c ns))) (sym given.named_so)

-- Places that pass a test.

pub agree : (test other : ℕ → Bool) (ps : List ℕ) → AllByRecursion (λ (p : ℕ). test p ≡ other p) ps → filter test ps ≡ filter other ps
agree test other [] all = refl
agree test other (p ∷ ps) all =
    ap (λ (b : Bool). if b then p ∷ filter test ps else filter test ps) all.0 ∙ ap (λ (qs : List ℕ). if other p then p ∷ qs else qs) (agree test other ps all.1)

pub none_pass : (test : ℕ → Bool) (ps : List ℕ) → AllByRecursion (λ (p : ℕ). test p ≡ false) ps → filter test ps ≡ []
none_pass test [] all = refl
none_pass test (p ∷ ps) all = ap (λ (b : Bool). if b then p ∷ filter test ps else filter test ps) all.0 ∙ none_pass test ps all.1

named_if : (P : ℕ → Type 0) (b : Bool) (p : ℕ) → (b ≡ true → P p) → AllByRecursion P (place_if b p)
named_if P true p is = (is refl, tt)
named_if P false p is = tt

-- what holds of each name of the client holds of its places
pub all_named : (P : ℕ → Type 0) (c : ℕ) (ns : List (ℕ × ℕ × ℕ)) → AllByRecursion (λ (n : ℕ × ℕ × ℕ). n.0 ≡ c → P n.1) ns → AllByRecursion P (named_places c ns)
all_named P c [] all = tt
all_named P c (n ∷ ns) all = all_join P (place_if (n.0 == c) n.1) (named_places c ns) (named_if P (n.0 == c) n.1 (λ e. all.0 (eqb-true n.0 c e))) (all_named P c ns all.1)

-- Tests.

-- below the first place none is within
pub below_within : (from to p : ℕ) → p < from → is_place_within from to p ≡ false
below_within from to p less = ap (λ (b : Bool). b && nat_lt p to) (lt-leb from p less)

-- below the second, the first decides
pub before_end : (from to p : ℕ) → p < to → nat_le from p ≡ is_place_within from to p
before_end from to p less = and_true (nat_le from p) (nat_lt p to) (lt-ltb p to less)
  where
    and_true : (a b : Bool) → b ≡ true → a ≡ a && b
    and_true true b e = sym e
    and_true false b e = refl

-- two ends above the place are as good
pub same_ends : (from to other p : ℕ) → (p < to → p < other) → (p < other → p < to) → is_place_within from to p ≡ is_place_within from other p
same_ends from to other p first second =
    ap (λ (b : Bool). nat_le from p && b)
    (split (nat_lt p to) (λ b. nat_lt p to ≡ b → b ≡ nat_lt p other)
    (λ h e. sym (lt-ltb p other (first (ltb-true p to e))))
    (λ h e. split (nat_lt p other) (λ d. nat_lt p other ≡ d → false ≡ d)
    (λ h' e'. absurd (omega (arith, second (ltb-true p other e'), ltb-false p to e)))
    (λ h' e'. refl)
    refl)
    refl)

-- Segments as lists.

-- each of the events stands at its place among these
abbrev pub StandThere : List Sent → List (ℕ × Sent) → Type 0
StandThere ss es = AllByRecursion (λ (e : ℕ × Sent). slice_get ss e.0 ≡ Some e.1) es

enumerated_there : (ss : List Sent) (n : ℕ) (xs : List Sent) → ((i : ℕ) (x : Sent) → slice_get xs i ≡ Some x → slice_get ss (n + i) ≡ Some x) → StandThere ss (enumerate_from n xs)
enumerated_there ss n [] at = tt
enumerated_there ss n (x ∷ xs) at = (
  subst (λ (k : ℕ). slice_get ss k ≡ Some x) (let e : n + 0 ≡ n = omega arith in e) (at 0 x refl),
  enumerated_there ss (n + 1) xs (λ i y e. subst (λ (k : ℕ). slice_get ss k ≡ Some y) (let e' : n + suc i ≡ n + 1 + i = omega arith in e') (at (suc i) y e)),
)

get_taken : {X : Type 0} (n : ℕ) (xs : List X) (i : ℕ) (x : X) → slice_get (take n xs) i ≡ Some x → slice_get xs i ≡ Some x
get_taken zero xs i x e = absurd (cc (e))
get_taken (suc n) [] i x e = absurd (cc (e))
get_taken (suc n) (y ∷ ys) zero x e = e
get_taken (suc n) (y ∷ ys) (suc i) x e = get_taken n ys i x e

get_dropped : {X : Type 0} (n : ℕ) (xs : List X) (i : ℕ) (x : X) → slice_get (drop n xs) i ≡ Some x → slice_get xs (n + i) ≡ Some x
get_dropped zero xs i x e = subst (λ (k : ℕ). slice_get xs k ≡ Some x) (let e' : i ≡ 0 + i = omega arith in e') e
get_dropped (suc n) [] i x e = absurd (cc (e))
get_dropped (suc n) (y ∷ ys) i x e = subst (λ (k : ℕ). slice_get (y ∷ ys) k ≡ Some x) (let e' : suc (n + i) ≡ suc n + i = omega arith in e') (get_dropped n ys i x e)

pub between_there : (from to : ℕ) (ss : List Sent) → StandThere ss (events_between (Some from) (Some to) ss)
between_there from to ss = enumerated_there ss from (drop from (take to ss)) (λ i x e. get_taken to ss (from + i) x (get_dropped from (take to ss) i x e))

pub filter_there : (ss : List Sent) (test : ℕ × Sent → Bool) (es : List (ℕ × Sent)) → StandThere ss es → StandThere ss (filter test es)
filter_there ss test [] all = tt
filter_there ss test (e ∷ es) all = split (test e) (λ b. StandThere ss (if b then e ∷ filter test es else filter test es)) (λ h. (all.0, filter_there ss test es all.1)) (λ h. filter_there ss test es all.1)

pub events_of_places : (ss : List Sent) (es : List (ℕ × Sent)) → StandThere ss es → events_of ss (places_of es) ≡ events_in es
events_of_places ss [] all = refl
events_of_places ss (e ∷ es) all = ap (λ (o : Option Sent). event_of o ++ events_of ss (places_of es)) all.0 ∙ ap (λ (xs : List Event). e.1.event ∷ xs) (events_of_places ss es all.1)

pub wanted_events : (ss : List Sent) (id mask from to : ℕ) → events_of ss (places_of (wanted id mask (events_between (Some from) (Some to) ss))) ≡ events_in (wanted id mask (events_between (Some from) (Some to) ss))
wanted_events ss id mask from to =
    let es : List (ℕ × Sent) = events_between (Some from) (Some to) ss in
    events_of_places ss (wanted id mask es) (filter_there ss (λ (e : ℕ × Sent). matches id mask e.1.event) es (between_there from to ss))

-- The places of a segment.

above : (n p : ℕ) → n ≤ p → (n ≡ p → ⊥) → n + 1 ≤ p
above n p le other =
    split (nat_lt n p) (λ b. nat_lt n p ≡ b → n + 1 ≤ p)
    (λ h e. omega (arith, ltb-true n p e))
    (λ h e. absurd (other (let same : n ≡ p = omega (arith, le, ltb-false n p e) in same)))
    refl

any_place : (n : ℕ) (xs : List Sent) (p : ℕ) → list_any (λ (e : ℕ × Sent). e.0 == p) (enumerate_from n xs) ≡ is_place_within n (n + length xs) p
any_place n [] p = sym (nothing_within n (n + 0) p (omega arith))
  where
    nothing_within : (n m p : ℕ) → m ≤ n → is_place_within n m p ≡ false
    nothing_within n m p small =
        split (nat_le n p) (λ b. nat_le n p ≡ b → b && nat_lt p m ≡ false)
        (λ h e. le-ltb p m (omega (arith, small, leb-true n p e)))
        (λ h e. refl)
        refl
any_place n (x ∷ xs) p =
    split (n == p) (λ b. (n == p) ≡ b → (b || list_any (λ (e : ℕ × Sent). e.0 == p) (enumerate_from (n + 1) xs)) ≡ is_place_within n (n + suc (length xs)) p)
    (λ h e.
    let same : n ≡ p = eqb-true n p e in
    sym (ap (λ (b : Bool). b && nat_lt p (n + suc (length xs))) (le-leb n p (omega (arith, same))) ∙ lt-ltb p (n + suc (length xs)) (omega (arith, same))))
    (λ h e. any_place (n + 1) xs p ∙ next n (length xs) p (eqb-false n p e))
    refl
  where
    next : (n k p : ℕ) → (n ≡ p → ⊥) → is_place_within (n + 1) (n + 1 + k) p ≡ is_place_within n (n + suc k) p
    next n k p other =
        split (nat_le n p) (λ b. nat_le n p ≡ b → nat_le (n + 1) p && nat_lt p (n + 1 + k) ≡ b && nat_lt p (n + suc k))
        (λ h e. ap (λ (b : Bool). b && nat_lt p (n + 1 + k)) (le-leb (n + 1) p (above n p (leb-true n p e) other)) ∙ ap (λ (m : ℕ). nat_lt p m) (let e' : n + 1 + k ≡ n + suc k = omega arith in e'))
        (λ h e. ap (λ (b : Bool). b && nat_lt p (n + 1 + k)) (lt-leb (n + 1) p (omega (arith, leb-false n p e))))
        refl

pub among_is : (from to : ℕ) (ss : List Sent) (ps : List ℕ) → to ≤ length ss → among (events_between (Some from) (Some to) ss) ps ≡ filter (is_place_within from to) ps
among_is from to ss ps within =
    let xs : List Sent = drop from (take to ss) in
    let size : length xs ≡ to - from = length-drop from (take to ss) ∙ ap (λ (n : ℕ). n - from) (let e : length (take to ss) ≡ to = omega (arith, length-take to ss, within) in e) in
    filter_agree (λ (p : ℕ). list_any (λ (e : ℕ × Sent). e.0 == p) (enumerate_from from xs)) (is_place_within from to)
    (λ p. any_place from xs p ∙ (ap (λ (n : ℕ). is_place_within from (from + n) p) size ∙ ends from to p))
    ps
  where
    ends : (from to p : ℕ) → is_place_within from (from + (to - from)) p ≡ is_place_within from to p
    ends from to p =
        split (nat_le from p) (λ b. nat_le from p ≡ b → b && nat_lt p (from + (to - from)) ≡ b && nat_lt p to)
        (λ h e. split (nat_lt p to) (λ d. nat_lt p to ≡ d → nat_lt p (from + (to - from)) ≡ d)
        (λ h' e'. lt-ltb p (from + (to - from)) (omega (arith, ltb-true p to e', leb-true from p e)))
        (λ h' e'. le-ltb p (from + (to - from)) (omega (arith, ltb-false p to e', leb-true from p e)))
        refl)
        (λ h e. refl)
        refl

-- more events behind the end leave the segment
pub between_front : (from to : ℕ) (ss more : List Sent) → to ≤ length ss → events_between (Some from) (Some to) (ss ++ more) ≡ events_between (Some from) (Some to) ss
between_front from to ss more within = ap (λ (xs : List Sent). enumerate_from from (drop from xs)) (take-append-le to ss more within)
