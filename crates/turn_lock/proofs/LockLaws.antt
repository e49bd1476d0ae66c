-- Laws of histories: their beginnings, and the entries of one number.
use Rattle.std.proofs.Common.{◌≡◌, ◌≢◌, ◌⊎◌, ℕ, zero, suc, ◌+◌, ◌<◌, ◌≤◌, List, [], ◌∷◌, ◌++◌, length, get_or, drop, sym, refl, ap, ◌∙◌, subst, inl, inr, ⊎_elim, arith, Option, Some, eq-eqb, ne_eqb}
use Rattle.std.proofs.lemmas.List.{append-nil, append_assoc, append_cancel_left}
use Rattle.std.proofs.lemmas.Bool.{le-leb, lt-leb}
use Rattle.std.proofs.lemmas.List.Elements.{All-nil, All-cons, All-head, All-tail}
use Rattle.std.specs.Prelude.{All}
use mathlib.Core.List.{IsPrefix}
use mathlib.Core.Logic.{dite}
use mathlib.Core.Option.{none, some, some-ne-none}
use native.Mathlib.Decide.{ℕ_discrete, dec_le}
use lib.ListN.{get_elem?}
use Rattle.atomic_table.proofs.Lists.{at_last}
use Rattle.daq_types.specs.Callers.{entries_by}
use Rattle.daq_types.proofs.CallersLaws.{entries_by-append, entries_by-other}
use Rattle.turn_lock.specs.History.{entries_below, Leads, EndsInStep}
use Rattle.turn_lock.specs.Views.{longer, pair_of}

module _ {A : Type 0} where
  pub prefix_self : (xs : List A) → IsPrefix xs xs
  prefix_self xs = ([], append-nil xs)

  pub prefix_through : (xs ys zs : List A) → IsPrefix xs ys → IsPrefix ys zs → IsPrefix xs zs
  prefix_through xs ys zs a b = (a.0 ++ b.0, sym (append_assoc xs a.0 b.0) ∙ (ap (λ (l : List A). l ++ b.0) a.1 ∙ b.1))

  pub prefix_more : (xs ys zs : List A) → IsPrefix xs ys → IsPrefix xs (ys ++ zs)
  prefix_more xs ys zs a = prefix_through xs ys (ys ++ zs) a (zs, refl)

  nil_right : (xs ys : List A) → xs ++ ys ≡ [] → ys ≡ []
  nil_right [] ys e = e
  nil_right (x ∷ xs) ys e = absurd (let l : length (x ∷ xs ++ ys) ≡ 0 = ap length e in omega arith)

  pub nil_left : (xs ys : List A) → xs ++ ys ≡ [] → xs ≡ []
  nil_left [] ys e = refl
  nil_left (x ∷ xs) ys e = absurd (let l : length (x ∷ xs ++ ys) ≡ 0 = ap length e in omega arith)

  shorter_along : (xs ys t u : List A) → xs ++ t ≡ ys ++ u → length xs ≤ length ys → IsPrefix xs ys
  shorter_along [] ys t u e l = (ys, refl)
  shorter_along (x ∷ xs) [] t u e l = absurd (omega arith)
  shorter_along (x ∷ xs) (y ∷ ys) t u e l = let r = shorter_along xs ys t u (ap (λ (z : List A). drop 1 z) e) (omega arith) in
      (r.0, λ i. ap (λ (z : List A). get_or z 0 x) e i ∷ r.1 i)

  -- of two beginnings of one list the shorter begins the longer
  pub shorter : (xs ys history : List A) → IsPrefix xs history → IsPrefix ys history → length xs ≤ length ys → IsPrefix xs ys
  shorter xs ys history a b l = shorter_along xs ys a.0 b.0 (a.1 ∙ sym b.1) l

  longer_cases : (P : List A → Type 0) (xs ys : List A) → (length ys ≤ length xs → P xs) → (length xs ≤ length ys → P ys) → P (longer xs ys)
  longer_cases P xs ys f g = dite (dec_le (length ys) (length xs)) (λ h. rw (le-leb (length ys) (length xs) h) (f h)) (λ n. let b : length xs < length ys = omega arith in rw (lt-leb (length ys) (length xs) b) (g (omega arith)))

  pub longer_along : (P : List A → Type 0) (xs ys : List A) → P xs → P ys → P (longer xs ys)
  longer_along P xs ys f g = longer_cases P xs ys (λ _. f) (λ _. g)

  pub longer_first : (xs ys history : List A) → IsPrefix xs history → IsPrefix ys history → IsPrefix xs (longer xs ys)
  longer_first xs ys history a b = longer_cases (IsPrefix xs) xs ys (λ _. prefix_self xs) (λ l. shorter xs ys history a b l)

  pub longer_second : (xs ys history : List A) → IsPrefix xs history → IsPrefix ys history → IsPrefix ys (longer xs ys)
  longer_second xs ys history a b = longer_cases (IsPrefix ys) xs ys (λ l. shorter ys xs history b a l) (λ _. prefix_self ys)

  pub at_within : (l : List A) (i : ℕ) (a : A) → get_elem? l i ≡ some a → i < length l
  at_within [] i a e = absurd (some-ne-none a (sym e))
  at_within (x ∷ xs) zero a e = omega arith
  at_within (x ∷ xs) (suc i) a e = let l = at_within xs i a e in omega arith

  pub at_end : (l : List A) (a b : A) (j : ℕ) → get_elem? (l ++ a ∷ []) j ≡ some b → (get_elem? l j ≡ some b) ⊎ ((j ≡ length l) × (a ≡ b))
  at_end [] a b zero e = inr (refl, mathlib.Core.Option.some-injective a b e)
  at_end [] a b (suc j) e = absurd (some-ne-none b (sym e))
  at_end (x ∷ xs) a b zero e = inl e
  at_end (x ∷ xs) a b (suc j) e = ⊎_elim (λ t. inl t) (λ t. inr (ap suc t.0, t.1)) (at_end xs a b j e)

-- what holds of each element of two lists behind one another holds in each of them
module _ {X : Type 0} (P : X → Type 0) where
  pub All_first : (xs ys : List X) → All P (xs ++ ys) → All P xs
  All_first [] ys a = All-nil P
  All_first (x ∷ xs) ys a = All-cons P x xs (All-head P x (xs ++ ys) a) (All_first xs ys (All-tail P x (xs ++ ys) a))

  pub All_second : (xs ys : List X) → All P (xs ++ ys) → All P ys
  All_second [] ys a = a
  All_second (x ∷ xs) ys a = All_second xs ys (All-tail P x (xs ++ ys) a)

  pub All_last : (xs : List X) (x : X) → All P (xs ++ x ∷ []) → P x
  All_last xs x a = All-head P x [] (All_second xs (x ∷ []) a)

below_nil : (E : Type 0) (n : ℕ) → entries_below {E = E} n [] ≡ 0
below_nil E zero = refl
below_nil E (suc n) = let r = below_nil E n in omega arith

module _ {E : Type 0} where
  -- where the longer list has no more entries of a number, the rest has none
  pub rest_none : (n : ℕ) (xs ys : List (ℕ × E)) → entries_by n (xs ++ ys) ≡ entries_by n xs → entries_by n ys ≡ []
  rest_none n xs ys e = append_cancel_left (entries_by n xs) (entries_by n ys) [] (sym (entries_by-append n xs ys) ∙ (e ∙ sym (append-nil (entries_by n xs))))

  -- nor has a list between the two
  pub entries_between : (n : ℕ) (xs ys history : List (ℕ × E)) → IsPrefix xs ys → IsPrefix ys history → entries_by n history ≡ entries_by n xs → entries_by n history ≡ entries_by n ys
  unfolding prefix_through
  entries_between n xs ys history a b e = let all = prefix_through xs ys history a b in
      let none : entries_by n (a.0 ++ b.0) ≡ [] = rest_none n xs (a.0 ++ b.0) (ap (entries_by n) all.1 ∙ e) in
      let behind : entries_by n b.0 ≡ [] = nil_right (entries_by n a.0) (entries_by n b.0) (sym (entries_by-append n a.0 b.0) ∙ none) in
      ap (entries_by n) (sym b.1) ∙ (entries_by-append n ys b.0 ∙ (ap (λ z. entries_by n ys ++ z) behind ∙ append-nil (entries_by n ys)))

  -- an entry of another number changes nothing for a number
  pub entries_added : (n m : ℕ) (e : E) (xs : List (ℕ × E)) → m ≢ n → entries_by m (xs ++ (n, e) ∷ []) ≡ entries_by m xs
  entries_added n m e xs other = entries_by-other m n xs e (λ z. other (sym z))

  -- a number that has no entry in the history has none in a beginning of it
  pub none_before : (n : ℕ) (xs history : List (ℕ × E)) → IsPrefix xs history → entries_by n history ≡ [] → entries_by n xs ≡ []
  none_before n xs history a e = nil_left (entries_by n xs) (entries_by n a.0) (sym (entries_by-append n xs a.0) ∙ (ap (entries_by n) a.1 ∙ e))

  some_entry : (x : ℕ × E) (xs : List (ℕ × E)) → entries_by x.0 (x ∷ xs) ≡ [] → ⊥
  some_entry x xs h = let l : length (entries_by x.0 (x ∷ xs)) ≡ 0 = ap length h in
      let b : entries_by x.0 (x ∷ xs) ≡ x.1 ∷ entries_by x.0 xs = rw (eq-eqb x.0 x.0 refl) refl in
      let m : length (x.1 ∷ entries_by x.0 xs) ≡ 0 = ap length (sym b) ∙ l in omega arith

  no_entries : (xs : List (ℕ × E)) → ((n : ℕ) → entries_by n xs ≡ []) → xs ≡ []
  no_entries [] h = refl
  no_entries (x ∷ xs) h = absurd (some_entry x xs (h x.0))

  -- a beginning with all entries of all numbers is the whole
  pub whole_history : (seen history : List (ℕ × E)) → IsPrefix seen history → ((n : ℕ) → entries_by n history ≡ entries_by n seen) → seen ≡ history
  whole_history seen history a h = let none = no_entries a.0 (λ n. rest_none n seen a.0 (ap (entries_by n) a.1 ∙ h n)) in
      sym (append-nil seen) ∙ (ap (λ z. seen ++ z) (sym none) ∙ a.1)

  below_same : (n : ℕ) (x : ℕ × E) (xs : List (ℕ × E)) → n ≤ x.0 → entries_below n (x ∷ xs) ≡ entries_below n xs
  below_same zero x xs l = refl
  below_same (suc n) x xs l = rw (ne_eqb x.0 n (λ e. omega arith)) (ap (λ (k : ℕ). k + length (entries_by n xs)) (below_same n x xs (omega arith)))

  below_more : (n : ℕ) (x : ℕ × E) (xs : List (ℕ × E)) → x.0 < n → entries_below n (x ∷ xs) ≡ entries_below n xs + 1
  below_more zero x xs l = absurd (omega arith)
  below_more (suc n) x xs l = dite (ℕ_discrete x.0 n)
      (λ e. let r = below_same n x xs (omega arith) in rw (eq-eqb x.0 n e) (let k : ℕ = length (entries_by n xs) in let a : entries_below n (x ∷ xs) ≡ entries_below n xs = r in omega arith))
      (λ other. let r = below_more n x xs (omega arith) in rw (ne_eqb x.0 n other) (let k : ℕ = length (entries_by n xs) in omega arith))

  -- a history in which only numbers below n have entries has as many entries as they have together
  pub length_history : (n : ℕ) (history : List (ℕ × E)) → ((k : ℕ) → n ≤ k → entries_by k history ≡ []) → length history ≡ entries_below n history
  length_history n [] known = sym (below_nil E n)
  length_history n (x ∷ xs) known = dite (dec_le n x.0) (λ l. absurd (some_entry x xs (known x.0 l)))
      (λ below. let r = length_history n xs (λ k l. let other : x.0 ≢ k = λ e. below (omega arith) in rw (ne_eqb x.0 k other) at (known k l)) in
      let m = below_more n x xs (omega arith) in omega arith)

  -- the pair of a joined pass stands behind the others
  pub pair_stands : (l : List (ℕ × List E)) (number : Option ℕ) (seen : List (ℕ × E)) (n : ℕ) → number ≡ Some n → get_elem? (l ++ pair_of number seen) (length l) ≡ some (n, entries_by n seen)
  pair_stands l number seen n e = subst (λ (z : Option ℕ). get_elem? (l ++ pair_of z seen) (length l) ≡ some (n, entries_by n seen)) (sym e) (at_last l (n, entries_by n seen) (length l) refl)

module _ {D E : Type 0} (step : D → ℕ → E → D → Type 0) where
  pub leads_further : (x y z : D) (history : List (ℕ × E)) (n : ℕ) (e : E) → Leads step x history y → step y n e z → Leads step x (history ++ (n, e) ∷ []) z
  leads_further x y z [] n e l s = (z, subst (λ w. step w n e z) (sym l) s, refl)
  leads_further x y z (a ∷ more) n e l s = (l.0, l.1, leads_further l.0 y z more n e l.2 s)

  -- a history in two parts leads over the data between them; so a beginning of a history that leads somewhere leads somewhere
  pub leads_parts : (x z : D) (xs ys : List (ℕ × E)) → Leads step x (xs ++ ys) z → (y : D) × Leads step x xs y × Leads step y ys z
  leads_parts x z [] ys l = (x, refl, l)
  leads_parts x z (e ∷ xs) ys l = let r = leads_parts l.0 z xs ys l.2 in (r.0, (l.0, l.1, r.1), r.2)

  -- one step more than a history that leads to what was held
  pub leads_in_step : (first held last : D) (n : ℕ) (e : E) (history : List (ℕ × E)) → EndsInStep step first held n e last history → Leads step first history last
  leads_in_step first held last n e history ends = subst (λ (h : List (ℕ × E)). Leads step first h last) (sym ends.list) (leads_further first held last ends.earlier n e ends.to_held ends.onward)

  -- Where an entry leads from given data to one data at most, so does a history.
  module _ (one : (before : D) (n : ℕ) (e : E) (x y : D) → step before n e x → step before n e y → x ≡ y) where
    pub leads_once : (history : List (ℕ × E)) (first x y : D) → Leads step first history x → Leads step first history y → x ≡ y
    leads_once [] first x y a b = sym a ∙ b
    leads_once (e ∷ es) first x y a b = leads_once es b.0 x y (subst (λ d. Leads step d es x) (one first e.0 e.1 a.0 b.0 a.1 b.1) a.2) b.2

    -- so the closed history led over the data that a pass held to those that it laid back, and from these to the last
    pub led_on : (first held last end : D) (n : ℕ) (e : E) (seen history : List (ℕ × E)) → EndsInStep step first held n e last seen → IsPrefix seen history → Leads step first history end
        → (rest : List (ℕ × E)) × (history ≡ seen ++ rest) × Leads step last rest end
    led_on first held last end n e seen history ends begins leads = let rest = begins.0 in
        let parts = leads_parts first end seen rest (subst (λ (h : List (ℕ × E)). Leads step first h end) (sym begins.1) leads) in
        let same : parts.0 ≡ last = leads_once seen first parts.0 last parts.1 (leads_in_step first held last n e seen ends) in
        (rest, sym begins.1, subst (λ d. Leads step d rest end) same parts.2)
