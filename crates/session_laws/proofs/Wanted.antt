-- How many clients want a report: of those that are registered, and of those that are to be called for a transition, which are no
-- more.
use Rattle.std.specs.Prelude.{◌≡◌, ℕ, suc, ◌+◌, ◌≤◌, ◌==◌, nat_lt, Bool, true, false, not, ◌||◌, if◌then◌else◌, fold, slice_get, List, [], ◌∷◌, ◌++◌, Option, Some, None, refl}
use Rattle.std.proofs.Common.{ap, ◌∙◌, subst, arith}
use Rattle.std.proofs.lemmas.Bool.{eqb-true}
use Rattle.daq_types.specs.declared.runs.Transition.{Transition}
use Rattle.transitions.specs.Sequences.{sequence_for}
use Rattle.transitions.specs.Placing.{placed}
use Rattle.buffer_core.proofs.SlotLaws.{split}
use Rattle.transitions.specs.declared.client.Registered.{Registered}
use Rattle.transitions.specs.declared.called.Called.{Called}
use Rattle.transitions.specs.Called.{sequence_of, candidate_with, candidates, called_list}
use Rattle.transitions.specs.EngineCalls.{stands_in, without}

abbrev pub one_if : Bool → ℕ
one_if true = 1
one_if false = 0

abbrev pub wanted : List Registered → ℕ
wanted [] = 0
wanted (c ∷ cs) = one_if c.wants_report + wanted cs

abbrev pub wants_in : Option Registered → ℕ
wants_in None = 0
wants_in (Some c) = one_if c.wants_report

abbrev pub wants : List Registered → Called → ℕ
wants clients x = wants_in (slice_get clients x.client)

abbrev pub total : List Registered → List Called → ℕ
total clients [] = 0
total clients (x ∷ xs) = wants clients x + total clients xs

pub wanted_push : (cs : List Registered) (c : Registered) → wanted (cs ++ c ∷ []) ≡ wanted cs + one_if c.wants_report
wanted_push [] c = omega arith
wanted_push (x ∷ cs) c = omega (arith, wanted_push cs c)

-- The list in order has those that are called.

total_placed : (clients : List Registered) (x : Called) (ys : List Called) → total clients (placed sequence_of x ys) ≡ wants clients x + total clients ys
total_placed clients x [] = refl
total_placed clients x (y ∷ ys) =
    split (nat_lt x.sequence y.sequence) (λ b. total clients (if b then x ∷ y ∷ ys else y ∷ placed sequence_of x ys) ≡ wants clients x + (wants clients y + total clients ys))
    (λ h. refl)
    (λ h. omega (arith, total_placed clients x ys))

total_ordered : (clients : List Registered) (ys xs : List Called) → total clients (fold (λ (zs : List Called) (x : Called). placed sequence_of x zs) ys xs) ≡ total clients ys + total clients xs
total_ordered clients ys [] = omega arith
total_ordered clients ys (x ∷ xs) = omega (arith, total_ordered clients (placed sequence_of x ys) xs, total_placed clients x ys)

candidate_few : (clients : List Registered) (n : ℕ) (c : Registered) (sequence : Option ℕ) (rest : List Called) (most : ℕ) → slice_get clients n ≡ Some c → total clients rest ≤ most
    → total clients (candidate_with n sequence rest) ≤ one_if c.wants_report + most
candidate_few clients n c None rest most at few = omega arith
candidate_few clients n c (Some q) rest most at few =
    let here : wants_in (slice_get clients n) ≡ one_if c.wants_report = ap wants_in at in
    omega arith

candidates_few : (clients : List Registered) (t : Transition) (n : ℕ) (cs : List Registered) → ((k : ℕ) → slice_get clients (n + k) ≡ slice_get cs k) → total clients (candidates t n cs) ≤ wanted cs
candidates_few clients t n [] same = omega arith
candidates_few clients t n (c ∷ cs) same =
    let zero_is : n + 0 ≡ n = omega arith in
    candidate_few clients n c (sequence_for c.sequences t) (candidates t (suc n) cs) (wanted cs)
    (subst (λ (m : ℕ). slice_get clients m ≡ Some c) zero_is (same 0))
    (candidates_few clients t (suc n) cs (λ k. (let next : n + suc k ≡ suc n + k = omega arith in subst (λ (m : ℕ). slice_get clients m ≡ slice_get cs k) next (same (suc k)))))

pub called_few : (t : Transition) (clients : List Registered) → total clients (called_list t clients) ≤ wanted clients
unfolding called_list
called_few t clients = omega (arith, total_ordered clients [] (candidates t 0 clients), candidates_few clients t 0 clients (λ k. (let none : 0 + k ≡ k = omega arith in ap (λ (n : ℕ). slice_get clients n) none)))

-- One of them is given its turn.

total_fewer : (clients : List Registered) (n : ℕ) (called : List Called) → total clients (without n called) ≤ total clients called
total_fewer clients n [] = omega arith
total_fewer clients n (x ∷ xs) =
    split (x.client == n) (λ b. total clients (if not b then x ∷ without n xs else without n xs) ≤ wants clients x + total clients xs)
    (λ h. omega (arith, total_fewer clients n xs)) (λ h. omega (arith, total_fewer clients n xs))

pub total_without : (clients : List Registered) (n : ℕ) (c : Registered) (called : List Called) → slice_get clients n ≡ Some c → stands_in called n ≡ true → one_if c.wants_report + total clients (without n called) ≤ total clients called
total_without clients n c [] at stands = absurd (cc (stands))
total_without clients n c (x ∷ xs) at stands =
    split (x.client == n) (λ b. (x.client == n) ≡ b → (b || stands_in xs n) ≡ true → one_if c.wants_report + total clients (if not b then x ∷ without n xs else without n xs) ≤ wants clients x + total clients xs)
    (λ h same stands'.
    let here : wants clients x ≡ one_if c.wants_report = ap (λ (m : ℕ). wants_in (slice_get clients m)) (eqb-true x.client n same) ∙ ap wants_in at in
    omega (arith, here, total_fewer clients n xs))
    (λ h ne stands'. omega (arith, total_without clients n c xs at stands'))
    refl stands
