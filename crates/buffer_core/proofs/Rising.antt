-- Rising lists of places, and lists of events by their places.
use Rattle.std.specs.Prelude.{◌≡◌, ℕ, zero, suc, ◌+◌, ◌<◌, ◌≤◌, ◌==◌, Bool, true, ◌||◌, if◌then◌else◌, List, [], ◌∷◌, ◌++◌, filter, reverse, slice_get, Some, refl, ⊤, ◌⊎◌}
use Rattle.std.specs.List.{enumerate_from, list_any}
use Rattle.std.proofs.Common.{ap, sym, ◌∙◌, subst, arith, inl, inr, eq-eqb}
use Rattle.std.proofs.Math.Logic.{⊎_elim}
use Rattle.std.proofs.lemmas.Bool.{eqb-true, or_left, or_right}
use Rattle.std.proofs.lemmas.List.{reverse-append}
use Rattle.buffer_core.specs.Window.{Sent}
use Rattle.buffer_core.specs.Delivered.{IsIn}
use Rattle.buffer_core.specs.Readers.{places_of}
use Rattle.buffer_core.proofs.SlotLaws.{split}
use Rattle.buffer_core.proofs.Following.{Falls}

-- each place is below all that are behind it
abbrev pub Rises : List ℕ → Type 0
Rises [] = ⊤
Rises (p ∷ ps) = ((q : ℕ) → IsIn q ps → p < q) × Rises ps

-- Lists that got a place more at the end.

in_front : (xs : List ℕ) (y q : ℕ) → IsIn q xs → IsIn q (xs ++ y ∷ [])
in_front [] y q is = absurd is
in_front (x ∷ xs) y q (inl same) = inl same
in_front (x ∷ xs) y q (inr is) = inr (in_front xs y q is)

in_last : (xs : List ℕ) (y : ℕ) → IsIn y (xs ++ y ∷ [])
in_last [] y = inl refl
in_last (x ∷ xs) y = inr (in_last xs y)

in_pushed : (xs : List ℕ) (y q : ℕ) → IsIn q (xs ++ y ∷ []) → IsIn q xs ⊎ (q ≡ y)
in_pushed [] y q (inl same) = inr same
in_pushed [] y q (inr none) = absurd none
in_pushed (x ∷ xs) y q (inl same) = inl (inl same)
in_pushed (x ∷ xs) y q (inr is) = ⊎_elim (λ (old : IsIn q xs). inl (inr old)) (λ (same : q ≡ y). inr same) (in_pushed xs y q is)

rises_push : (xs : List ℕ) (y : ℕ) → Rises xs → ((q : ℕ) → IsIn q xs → q < y) → Rises (xs ++ y ∷ [])
rises_push [] y rises above = (λ q none. absurd none, tt)
rises_push (x ∷ xs) y rises above = (
  λ q is. ⊎_elim (λ (old : IsIn q xs). rises.0 q old) (λ (same : q ≡ y). omega (arith, same, above x (inl refl))) (in_pushed xs y q is),
  rises_push xs y rises.1 (λ q is. above q (inr is)),
)

-- Lists the other way round.

reverse_more : (x : ℕ) (xs : List ℕ) → reverse (x ∷ xs) ≡ reverse xs ++ x ∷ []
reverse_more x xs = reverse-append (x ∷ []) xs

pub in_reverse : (xs : List ℕ) (q : ℕ) → IsIn q xs → IsIn q (reverse xs)
in_reverse [] q is = absurd is
in_reverse (x ∷ xs) q (inl same) = subst (IsIn q) (sym (reverse_more x xs)) (subst (λ (n : ℕ). IsIn n (reverse xs ++ x ∷ [])) (sym same) (in_last (reverse xs) x))
in_reverse (x ∷ xs) q (inr is) = subst (IsIn q) (sym (reverse_more x xs)) (in_front (reverse xs) x q (in_reverse xs q is))

pub of_reverse : (xs : List ℕ) (q : ℕ) → IsIn q (reverse xs) → IsIn q xs
of_reverse [] q is = absurd is
of_reverse (x ∷ xs) q is =
    ⊎_elim (λ (old : IsIn q (reverse xs)). inr (of_reverse xs q old)) (λ (same : q ≡ x). inl same) (in_pushed (reverse xs) x q (subst (IsIn q) (reverse_more x xs) is))

pub rises_reverse : (xs : List ℕ) → Falls xs → Rises (reverse xs)
rises_reverse [] falls = tt
rises_reverse (x ∷ xs) falls =
    subst Rises (sym (reverse_more x xs)) (rises_push (reverse xs) x (rises_reverse xs falls.1) (λ q is. falls.0 q (of_reverse xs q is)))

-- Places that pass a test.

pub of_filter : (test : ℕ → Bool) (xs : List ℕ) (q : ℕ) → IsIn q (filter test xs) → IsIn q xs × (test q ≡ true)
of_filter test [] q is = absurd is
of_filter test (x ∷ xs) q is =
    split (test x) (λ b. test x ≡ b → IsIn q (if b then x ∷ filter test xs else filter test xs) → IsIn q (x ∷ xs) × (test q ≡ true))
    (λ h hit.
    ⊎_elim
    (λ (same : q ≡ x). (inl same, subst (λ (n : ℕ). test n ≡ true) (sym same) hit))
    (λ (later : IsIn q (filter test xs)). let rest = of_filter test xs q later in (inr rest.0, rest.1)))
    (λ h miss later. let rest = of_filter test xs q later in (inr rest.0, rest.1))
    refl is

pub in_filter : (test : ℕ → Bool) (xs : List ℕ) (q : ℕ) → IsIn q xs → test q ≡ true → IsIn q (filter test xs)
in_filter test [] q is passed = absurd is
in_filter test (x ∷ xs) q (inl same) passed =
    split (test x) (λ b. test x ≡ b → IsIn q (if b then x ∷ filter test xs else filter test xs))
    (λ h hit. inl same)
    (λ h miss. absurd (cc (miss, subst (λ (n : ℕ). test n ≡ true) same passed)))
    refl
in_filter test (x ∷ xs) q (inr is) passed =
    split (test x) (λ b. IsIn q (if b then x ∷ filter test xs else filter test xs))
    (λ h. inr (in_filter test xs q is passed))
    (λ h. in_filter test xs q is passed)

pub rises_filter : (test : ℕ → Bool) (xs : List ℕ) → Rises xs → Rises (filter test xs)
rises_filter test [] rises = tt
rises_filter test (x ∷ xs) rises =
    split (test x) (λ b. Rises (if b then x ∷ filter test xs else filter test xs))
    (λ h. (λ q is. rises.0 q (of_filter test xs q is).0, rises_filter test xs rises.1))
    (λ h. rises_filter test xs rises.1)

-- rising lists with the same members are one
pub same_members : (xs ys : List ℕ) → Rises xs → Rises ys → ((q : ℕ) → IsIn q xs → IsIn q ys) → ((q : ℕ) → IsIn q ys → IsIn q xs) → xs ≡ ys
same_members [] [] xs_rise ys_rise there back = refl
same_members [] (y ∷ ys) xs_rise ys_rise there back = absurd (back y (inl refl))
same_members (x ∷ xs) [] xs_rise ys_rise there back = absurd (there x (inl refl))
same_members (x ∷ xs) (y ∷ ys) xs_rise ys_rise there back =
    let least : y ≤ x = ⊎_elim (λ (same : x ≡ y). omega (arith, same)) (λ (is : IsIn x ys). omega (arith, ys_rise.0 x is)) (there x (inl refl)) in
    let most : x ≤ y = ⊎_elim (λ (same : y ≡ x). omega (arith, same)) (λ (is : IsIn y xs). omega (arith, xs_rise.0 y is)) (back y (inl refl)) in
    let head : x ≡ y = omega (arith, least, most) in
    let tail : xs ≡ ys =
    same_members xs ys xs_rise.1 ys_rise.1
    (λ q is. ⊎_elim (λ (same : q ≡ y). absurd (omega (arith, same, head, xs_rise.0 q is))) (λ (later : IsIn q ys). later) (there q (inr is)))
    (λ q is. ⊎_elim (λ (same : q ≡ x). absurd (omega (arith, same, head, ys_rise.0 q is))) (λ (later : IsIn q xs). later) (back q (inr is))) in
    ap (λ (n : ℕ). n ∷ xs) head ∙ ap (λ (ns : List ℕ). y ∷ ns) tail

-- Events with their places.

-- an event of this place stands among these, and passes the test
pub record Stands (test : ℕ × Sent → Bool) (events : List (ℕ × Sent)) (place : ℕ) : Type 0 where
  pub index : ℕ
  pub event : Sent
  pub is : slice_get events index ≡ Some (place, event)
  pub hit : test (place, event) ≡ true

later_stands : (test : ℕ × Sent → Bool) (e : ℕ × Sent) (events : List (ℕ × Sent)) (place : ℕ) → Stands test events place → Stands test (e ∷ events) place
later_stands test e events place it = record { index = suc it.index; event = it.event; is = it.is; hit = it.hit }

here_stands : (test : ℕ × Sent → Bool) (e : ℕ × Sent) (events : List (ℕ × Sent)) (place : ℕ) → place ≡ e.0 → test e ≡ true → Stands test (e ∷ events) place
here_stands test e events place same hit =
    record { index = 0; event = e.1; is = ap (λ (n : ℕ). Some (n, e.1)) (sym same); hit = ap (λ (n : ℕ). test (n, e.1)) same ∙ hit }

pub of_wanted : (test : ℕ × Sent → Bool) (events : List (ℕ × Sent)) (place : ℕ) → IsIn place (places_of (filter test events)) → Stands test events place
of_wanted test [] place is = absurd is
of_wanted test (e ∷ es) place is =
    split (test e) (λ b. test e ≡ b → IsIn place (places_of (if b then e ∷ filter test es else filter test es)) → Stands test (e ∷ es) place)
    (λ h hit. ⊎_elim (λ (same : place ≡ e.0). here_stands test e es place same hit) (λ (later : IsIn place (places_of (filter test es))). later_stands test e es place (of_wanted test es place later)))
    (λ h miss later. later_stands test e es place (of_wanted test es place later))
    refl is

pub in_wanted : (test : ℕ × Sent → Bool) (events : List (ℕ × Sent)) (i place : ℕ) (s : Sent) → slice_get events i ≡ Some (place, s) → test (place, s) ≡ true → IsIn place (places_of (filter test events))
in_wanted test [] i place s is hit = absurd (cc)
in_wanted test (e ∷ es) zero place s is hit =
    let same : e ≡ (place, s) = cc in
    split (test e) (λ b. test e ≡ b → IsIn place (places_of (if b then e ∷ filter test es else filter test es)))
    (λ h passed. inl (ap (λ (x : ℕ × Sent). x.0) (sym same)))
    (λ h failed. absurd (cc (failed, subst (λ (x : ℕ × Sent). test x ≡ true) (sym same) hit)))
    refl
in_wanted test (e ∷ es) (suc i) place s is hit =
    split (test e) (λ b. IsIn place (places_of (if b then e ∷ filter test es else filter test es)))
    (λ h. inr (in_wanted test es i place s is hit))
    (λ h. in_wanted test es i place s is hit)

from_on : (test : ℕ × Sent → Bool) (n : ℕ) (ss : List Sent) (q : ℕ) → IsIn q (places_of (filter test (enumerate_from n ss))) → n ≤ q
from_on test n [] q is = absurd is
from_on test n (s ∷ ss) q is =
    split (test (n, s)) (λ b. IsIn q (places_of (if b then (n, s) ∷ filter test (enumerate_from (n + 1) ss) else filter test (enumerate_from (n + 1) ss))) → n ≤ q)
    (λ h. ⊎_elim (λ (same : q ≡ n). omega (arith, same)) (λ (later : IsIn q (places_of (filter test (enumerate_from (n + 1) ss)))). omega (arith, from_on test (n + 1) ss q later)))
    (λ h later. omega (arith, from_on test (n + 1) ss q later))
    is

pub wanted_rise : (test : ℕ × Sent → Bool) (n : ℕ) (ss : List Sent) → Rises (places_of (filter test (enumerate_from n ss)))
wanted_rise test n [] = tt
wanted_rise test n (s ∷ ss) =
    split (test (n, s)) (λ b. Rises (places_of (if b then (n, s) ∷ filter test (enumerate_from (n + 1) ss) else filter test (enumerate_from (n + 1) ss))))
    (λ h. (λ q is. omega (arith, from_on test (n + 1) ss q is), wanted_rise test (n + 1) ss))
    (λ h. wanted_rise test (n + 1) ss)

-- whether an event of this place stands among these
pub any_stands : (events : List (ℕ × Sent)) (place : ℕ) → list_any (λ (e : ℕ × Sent). e.0 == place) events ≡ true → (i : ℕ) × (s : Sent) × (slice_get events i ≡ Some (place, s))
any_stands [] place e = absurd (cc)
any_stands (x ∷ xs) place e =
    split (x.0 == place) (λ b. (x.0 == place) ≡ b → b || list_any (λ (y : ℕ × Sent). y.0 == place) xs ≡ true → (i : ℕ) × (s : Sent) × (slice_get (x ∷ xs) i ≡ Some (place, s)))
    (λ h same e'. (0, x.1, ap (λ (n : ℕ). Some (n, x.1)) (eqb-true x.0 place same)))
    (λ h other e'. let rest = any_stands xs place e' in (suc rest.0, rest.1, rest.2))
    refl e

pub stands_any : (events : List (ℕ × Sent)) (i place : ℕ) (s : Sent) → slice_get events i ≡ Some (place, s) → list_any (λ (e : ℕ × Sent). e.0 == place) events ≡ true
stands_any [] i place s is = absurd (cc)
stands_any (x ∷ xs) zero place s is =
    let same : x ≡ (place, s) = cc in
    or_left (x.0 == place) (list_any (λ (e : ℕ × Sent). e.0 == place) xs) (eq-eqb x.0 place (ap (λ (e : ℕ × Sent). e.0) same))
stands_any (x ∷ xs) (suc i) place s is = or_right (x.0 == place) (list_any (λ (e : ℕ × Sent). e.0 == place) xs) (stands_any xs i place s is)
