-- Where one client stands: among those that are called, among those whose answers are awaited, or among those that answered.
use Rattle.std.proofs.Common.{◌≡◌, ℕ, suc, ◌<◌, ◌≤◌, Bool, true, false, eqb, List, [], ◌∷◌, ◌++◌, length, refl, ap, sym, ◌∙◌, arith, inl, inr}
use Rattle.std.specs.Prelude.{◌||◌, ◌&&◌, not, ◌⊎◌, if◌then◌else◌}
use Rattle.std.specs.List.{AllByRecursion}
use Rattle.std.proofs.lemmas.Bool.{eqb-true, eqb-false, eq-eqb, ne_eqb, and_parts}
use Rattle.transitions.specs.declared.called.Called.{Called}
use Rattle.transitions.specs.Called.{called_numbers}
use Rattle.transitions.specs.CalledOrder.{IsBefore, AreInOrder, IsCalledIn}
use Rattle.transitions.specs.EngineCalls.{stands_in, stands_with, without}
use Rattle.transitions.specs.EnginePoints.{is_among, are_among}
use Rattle.transitions.specs.TurnOrder.{AreDistinct}
use Rattle.transitions.proofs.Apart.{split}

-- Truth values.

pub none : (a b : Bool) → a ≡ false → b ≡ false → (a || b) ≡ false
none a b e f = rw (e, f) refl

pub either : (a : Bool) → (a || true) ≡ true
either true = refl
either false = refl

pub or_false : (a : Bool) → (a || false) ≡ a
or_false true = refl
or_false false = refl

pub or_assoc : (a b c : Bool) → ((a || b) || c) ≡ (a || (b || c))
or_assoc true b c = refl
or_assoc false b c = refl

pub and_false : (a : Bool) → (a && false) ≡ false
and_false true = refl
and_false false = refl

pub and_true : (a : Bool) → (a && true) ≡ a
and_true true = refl
and_true false = refl

-- where one of the two holds
pub or_parts : (a b : Bool) → (a || b) ≡ true → (a ≡ true) ⊎ (b ≡ true)
or_parts true b e = inl refl
or_parts false b e = inr e

-- and where neither does
pub neither : (a b : Bool) → (a || b) ≡ false → (a ≡ false) × (b ≡ false)
neither false false e = (refl, refl)
neither false true e = absurd cc
neither true b e = absurd cc

pub never_both : (b : Bool) → b ≡ true → b ≡ false → ⊥
never_both true e f = absurd cc
never_both false e f = absurd cc

pub flip : (a b : ℕ) → eqb a b ≡ false → eqb b a ≡ false
flip a b e = ne_eqb b a (λ same. eqb-false a b e (sym same))

-- Among those that are called.

-- one that was taken out is not among what is left
pub stands_gone : (n : ℕ) (cs : List Called) → stands_in (without n cs) n ≡ false
stands_gone n [] = refl
stands_gone n (c ∷ cs) =
    split (eqb c.client n) (λ b. stands_in (if not b then c ∷ without n cs else without n cs) n ≡ false)
    (λ h. stands_gone n cs) (λ h. none (eqb c.client n) (stands_in (without n cs) n) h (stands_gone n cs))

-- and another one stays where it is
pub stands_other : (n other : ℕ) (cs : List Called) → eqb other n ≡ false → stands_in (without other cs) n ≡ stands_in cs n
stands_other n other [] ne = refl
stands_other n other (c ∷ cs) ne =
    split (eqb c.client other) (λ b. stands_in (if not b then c ∷ without other cs else without other cs) n ≡ (eqb c.client n || stands_in cs n))
    (λ h.
    let away : eqb c.client n ≡ false = ap (λ (m : ℕ). eqb m n) (eqb-true c.client other h) ∙ ne in
    stands_other n other cs ne ∙ ap (λ (b : Bool). b || stands_in cs n) (sym away))
    (λ h. ap (λ (b : Bool). eqb c.client n || b) (stands_other n other cs ne))

-- who stands in what is left had stood there
pub stood : (n other : ℕ) (cs : List Called) → stands_in (without other cs) n ≡ true → (eqb other n ≡ false) × (stands_in cs n ≡ true)
stood n other cs e =
    split (eqb other n) (λ b. eqb other n ≡ b → (eqb other n ≡ false) × (stands_in cs n ≡ true))
    (λ h g.
    let gone : stands_in (without other cs) n ≡ false = ap (λ (m : ℕ). stands_in (without other cs) m) (sym (eqb-true other n g)) ∙ stands_gone other cs in
    absurd (never_both (stands_in (without other cs) n) e gone))
    (λ h g. (g, sym (stands_other n other cs g) ∙ e)) refl

-- one more at the end
pub stands_push : (n : ℕ) (cs : List Called) (x : Called) → stands_in (cs ++ x ∷ []) n ≡ (stands_in cs n || eqb x.client n)
stands_push n [] x = or_false (eqb x.client n)
stands_push n (c ∷ cs) x = ap (λ (b : Bool). eqb c.client n || b) (stands_push n cs x) ∙ sym (or_assoc (eqb c.client n) (stands_in cs n) (eqb x.client n))

pub stands_append : (n : ℕ) (xs ys : List Called) → stands_in (xs ++ ys) n ≡ (stands_in xs n || stands_in ys n)
stands_append n [] ys = refl
stands_append n (x ∷ xs) ys = ap (λ (b : Bool). eqb x.client n || b) (stands_append n xs ys) ∙ sym (or_assoc (eqb x.client n) (stands_in xs n) (stands_in ys n))

-- Entries of the list.

pub called_stands : (x : Called) (cs : List Called) → IsCalledIn x cs → stands_in cs x.client ≡ true
called_stands x [] h = absurd h
called_stands x (c ∷ cs) (inl e) =
    let same : eqb c.client x.client ≡ true = eq-eqb c.client x.client (ap (λ (y : Called). y.client) (sym e)) in
    ap (λ (b : Bool). b || stands_in cs x.client) same
called_stands x (c ∷ cs) (inr h) = ap (λ (b : Bool). eqb c.client x.client || b) (called_stands x cs h) ∙ either (eqb c.client x.client)

-- who stands in a group of this number is called with it
pub entry_with : (q : ℕ) (cs : List Called) (n : ℕ) → stands_with q cs n ≡ true → IsCalledIn (record { client = n; sequence = q }) cs
entry_with q [] n e = absurd cc
entry_with q (c ∷ cs) n e =
    split ((eqb c.client n) && (eqb c.sequence q)) (λ b. (b || stands_with q cs n) ≡ true → IsCalledIn (record { client = n; sequence = q }) (c ∷ cs))
    (λ h e'.
    let parts = and_parts (eqb c.client n) (eqb c.sequence q) h in
    let client : c.client ≡ n = eqb-true c.client n parts.0 in
    let sequence : c.sequence ≡ q = eqb-true c.sequence q parts.1 in
    inl (ap (λ (m : ℕ). record { client = m; sequence = q }) (sym client) ∙ ap (λ (m : ℕ). record { client = c.client; sequence = m }) (sym sequence)))
    (λ h e'. inr (entry_with q cs n e')) e

pub with_stands : (q : ℕ) (cs : List Called) (n : ℕ) → stands_with q cs n ≡ true → stands_in cs n ≡ true
with_stands q cs n e = called_stands (record { client = n; sequence = q }) cs (entry_with q cs n e)

pub record Entry (cs : List Called) (n : ℕ) : Type 0 where
  pub one : Called
  pub is : one.client ≡ n
  pub among : IsCalledIn one cs

pub entry_of : (cs : List Called) (n : ℕ) → stands_in cs n ≡ true → Entry cs n
entry_of [] n e = absurd cc
entry_of (c ∷ cs) n e =
    split (eqb c.client n) (λ b. (b || stands_in cs n) ≡ true → Entry (c ∷ cs) n)
    (λ h e'. record { one = c; is = eqb-true c.client n h; among = inl refl })
    (λ h e'.
    let found = entry_of cs n e' in
    record { one = found.one; is = found.is; among = inr found.among }) e

pub kept_without : (x : Called) (n : ℕ) (cs : List Called) → eqb x.client n ≡ false → IsCalledIn x cs → IsCalledIn x (without n cs)
kept_without x n [] ne h = absurd h
kept_without x n (c ∷ cs) ne (inl e) =
    let here : eqb c.client n ≡ false = ap (λ (y : Called). eqb y.client n) (sym e) ∙ ne in
    split (eqb c.client n) (λ b. eqb c.client n ≡ b → IsCalledIn x (if not b then c ∷ without n cs else without n cs))
    (λ h g. absurd (never_both (eqb c.client n) g here)) (λ h g. inl e) refl
kept_without x n (c ∷ cs) ne (inr r) =
    split (eqb c.client n) (λ b. IsCalledIn x (if not b then c ∷ without n cs else without n cs))
    (λ h. kept_without x n cs ne r) (λ h. inr (kept_without x n cs ne r))

pub from_without : (x : Called) (n : ℕ) (cs : List Called) → IsCalledIn x (without n cs) → IsCalledIn x cs
from_without x n [] h = h
from_without x n (c ∷ cs) h =
    split (eqb c.client n) (λ b. IsCalledIn x (if not b then c ∷ without n cs else without n cs) → IsCalledIn x (c ∷ cs))
    (λ g h'. inr (from_without x n cs h'))
    (λ g h'. elim h' [ inl e ↦ inl e | inr r ↦ inr (from_without x n cs r) ]) h

pub in_push : (x y : Called) (cs : List Called) → IsCalledIn x (cs ++ y ∷ []) → IsCalledIn x cs ⊎ (x ≡ y)
in_push x y [] (inl e) = inr e
in_push x y [] (inr h) = absurd h
in_push x y (c ∷ cs) (inl e) = inl (inl e)
in_push x y (c ∷ cs) (inr h) = elim (in_push x y cs h) [ inl r ↦ inl (inr r) | inr e ↦ inr e ]

-- Order.

all_without : (P : Called → Type 0) (n : ℕ) (cs : List Called) → AllByRecursion P cs → AllByRecursion P (without n cs)
all_without P n [] all = tt
all_without P n (c ∷ cs) all =
    split (eqb c.client n) (λ b. AllByRecursion P (if not b then c ∷ without n cs else without n cs))
    (λ h. all_without P n cs all.1) (λ h. (all.0, all_without P n cs all.1))

pub ordered_without : (n : ℕ) (cs : List Called) → AreInOrder cs → AreInOrder (without n cs)
ordered_without n [] order = tt
ordered_without n (c ∷ cs) order =
    split (eqb c.client n) (λ b. AreInOrder (if not b then c ∷ without n cs else without n cs))
    (λ h. ordered_without n cs order.1) (λ h. (all_without (IsBefore c) n cs order.0, ordered_without n cs order.1))

before_all : (c x : Called) (cs : List Called) → AllByRecursion (IsBefore c) cs → IsCalledIn x cs → c.sequence ≤ x.sequence
before_all c x [] all h = absurd h
before_all c x (d ∷ ds) all (inl e) =
    let up = all.0.sequence in
    let same : x.sequence ≡ d.sequence = ap (λ (y : Called). y.sequence) e in
    omega (arith, up, same)
before_all c x (d ∷ ds) all (inr h) = before_all c x ds all.1 h

-- the first one has the least number
pub front_least : (c x : Called) (cs : List Called) → AreInOrder (c ∷ cs) → IsCalledIn x (c ∷ cs) → c.sequence ≤ x.sequence
front_least c x cs order (inl e) =
    let same : x.sequence ≡ c.sequence = ap (λ (y : Called). y.sequence) e in
    omega (arith, same)
front_least c x cs order (inr h) = before_all c x cs order.0 h

-- How many there are.

pub without_within : (n : ℕ) (cs : List Called) → length (without n cs) ≤ length cs
without_within n [] = omega arith
without_within n (c ∷ cs) =
    split (eqb c.client n) (λ b. length (if not b then c ∷ without n cs else without n cs) ≤ suc (length cs))
    (λ h. omega (arith, without_within n cs)) (λ h. omega (arith, without_within n cs))

pub without_less : (n : ℕ) (cs : List Called) → stands_in cs n ≡ true → length (without n cs) < length cs
without_less n [] e = absurd cc
without_less n (c ∷ cs) e =
    split (eqb c.client n) (λ b. (b || stands_in cs n) ≡ true → length (if not b then c ∷ without n cs else without n cs) < suc (length cs))
    (λ h e'. omega (arith, without_within n cs)) (λ h e'. omega (arith, without_less n cs e')) e

pub stands_some : (cs : List Called) (n : ℕ) → stands_in cs n ≡ true → 0 < length cs
stands_some [] n e = absurd cc
stands_some (c ∷ cs) n e = omega arith

-- Among those that were given a turn, and those that answered.

pub among_push : (n x : ℕ) (xs : List ℕ) → is_among n (xs ++ x ∷ []) ≡ (is_among n xs || eqb x n)
among_push n x [] = or_false (eqb x n)
among_push n x (a ∷ xs) = ap (λ (b : Bool). eqb a n || b) (among_push n x xs) ∙ sym (or_assoc (eqb a n) (is_among n xs) (eqb x n))

pub among_last : (n : ℕ) (xs : List ℕ) → is_among n (xs ++ n ∷ []) ≡ true
among_last n xs = among_push n n xs ∙ (ap (λ (b : Bool). is_among n xs || b) (eq-eqb n n refl) ∙ either (is_among n xs))

pub among_longer : (n x : ℕ) (xs : List ℕ) → is_among n xs ≡ true → is_among n (xs ++ x ∷ []) ≡ true
among_longer n x xs e = among_push n x xs ∙ ap (λ (b : Bool). b || eqb x n) e

pub among_stands : (n : ℕ) (cs : List Called) → is_among n (called_numbers cs) ≡ stands_in cs n
among_stands n [] = refl
among_stands n (c ∷ cs) = ap (λ (b : Bool). eqb c.client n || b) (among_stands n cs)

pub apart_push : (n : ℕ) (xs : List ℕ) → is_among n xs ≡ false → AreDistinct xs → AreDistinct (xs ++ n ∷ [])
apart_push n [] new apart = (refl, tt)
apart_push n (x ∷ xs) new apart =
    let parts = neither (eqb x n) (is_among n xs) new in
    (among_push x n xs ∙ none (is_among x xs) (eqb n x) apart.0 (flip x n parts.0), apart_push n xs parts.1 apart.1)

pub all_among : (xs ys : List ℕ) → ((n : ℕ) → is_among n xs ≡ true → is_among n ys ≡ true) → are_among xs ys ≡ true
all_among [] ys each = refl
all_among (x ∷ xs) ys each =
    let first : is_among x ys ≡ true = each x (ap (λ (b : Bool). b || is_among x xs) (eq-eqb x x refl)) in
    let rest : are_among xs ys ≡ true = all_among xs ys (λ n e. each n (ap (λ (b : Bool). eqb x n || b) e ∙ either (eqb x n))) in
    ap (λ (b : Bool). b && are_among xs ys) first ∙ rest

pub not_all_among : (n : ℕ) (xs ys : List ℕ) → is_among n xs ≡ true → is_among n ys ≡ false → are_among xs ys ≡ false
not_all_among n [] ys e away = absurd cc
not_all_among n (x ∷ xs) ys e away =
    split (eqb x n) (λ b. (b || is_among n xs) ≡ true → (is_among x ys && are_among xs ys) ≡ false)
    (λ h e'.
    let here : is_among x ys ≡ false = ap (λ (m : ℕ). is_among m ys) (eqb-true x n h) ∙ away in
    ap (λ (b : Bool). b && are_among xs ys) here)
    (λ h e'. ap (λ (b : Bool). is_among x ys && b) (not_all_among n xs ys e' away) ∙ and_false (is_among x ys)) e
