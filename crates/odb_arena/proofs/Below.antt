-- The rows by their numbers.
use Rattle.std.proofs.Common.{◌≡◌, ℕ, zero, suc, ◌+◌, ◌<◌, ◌≤◌, Bool, true, false, cond, eqb, ltb, ◌⊎◌, inl, inr, List, [], ◌∷◌, ◌++◌, map, Option, Some, None, refl, sym, ap, ◌∙◌, arith, add-one}
use Rattle.std.specs.List.{find, filter}
use Rattle.std.specs.Option.{option_map, option_or, option_to_list}
use Rattle.std.proofs.lemmas.Bool.Decides.{nat_tests}
use Rattle.odb_tree.specs.declared.rows.Row.{Row}
use Rattle.odb_tree.specs.Rows.{Rows, no_rows, row_numbered}
use Rattle.odb_tree.specs.Calls.{path_with}
use Rattle.odb_tree.proofs.WalkLaws.{filter_append, map_append}
use Rattle.odb_arena.specs.Arena.{rows_below, path_at, IsNumbered}

-- a numbering of rows gives the same rows below a number as one that agrees with it there
pub below_same : (f g : ℕ → Option Row) (n : ℕ) → ((k : ℕ) → k < n → f k ≡ g k) → rows_below f n ≡ rows_below g n
unfolding rows_below
below_same f g zero h = refl
below_same f g (suc n) h =
    ap (λ (l : List Row). l ++ option_to_list (f n)) (below_same f g n (λ k l. h k (omega arith)))
    ∙ ap (λ (o : Option Row). rows_below g n ++ option_to_list o) (h n (omega arith))

pub below_next : (f : ℕ → Option Row) (n : ℕ) → rows_below f (n + 1) ≡ rows_below f n ++ option_to_list (f n)
unfolding rows_below
below_next f n = ap (rows_below f) (add-one n)

-- one row more
pub below_more : (f g : ℕ → Option Row) (n : ℕ) (new : Row) → ((k : ℕ) → k < n → g k ≡ f k) → g n ≡ Some new → rows_below g (n + 1) ≡ rows_below f n ++ new ∷ []
below_more f g n new h k =
    below_next g n
    ∙ (ap (λ (o : Option Row). rows_below g n ++ option_to_list o) k
    ∙ ap (λ (l : List Row). l ++ new ∷ []) (below_same g f n h))

-- fewer rows
pub below_fewer : (test : Row → Bool) (f g : ℕ → Option Row) (n : ℕ) → ((k : ℕ) → option_to_list (g k) ≡ filter test (option_to_list (f k)))
    → rows_below g n ≡ filter test (rows_below f n)
unfolding rows_below
below_fewer test f g zero h = refl
below_fewer test f g (suc n) h =
    ap (λ (l : List Row). l ++ option_to_list (g n)) (below_fewer test f g n h)
    ∙ (ap (λ (l : List Row). filter test (rows_below f n) ++ l) (h n)
    ∙ sym (filter_append test (rows_below f n) (option_to_list (f n))))

-- changed rows
pub below_changed : (change : Row → Row) (f g : ℕ → Option Row) (n : ℕ) → ((k : ℕ) → g k ≡ option_map change (f k))
    → rows_below g n ≡ map change (rows_below f n)
unfolding rows_below
below_changed change f g zero h = refl
below_changed change f g (suc n) h =
    ap (λ (l : List Row). l ++ option_to_list (g n)) (below_changed change f g n h)
    ∙ (ap (λ (o : Option Row). map change (rows_below f n) ++ option_to_list o) (h n)
    ∙ (ap (λ (l : List Row). map change (rows_below f n) ++ l) (to_list (f n))
    ∙ sym (map_append change (rows_below f n) (option_to_list (f n)))))
  where
    to_list : (o : Option Row) → option_to_list (option_map change o) ≡ map change (option_to_list o)
    to_list None = refl
    to_list (Some r) = refl

find_append : {X : Type 0} (test : X → Bool) (xs ys : List X) → find test (xs ++ ys) ≡ option_or (find test xs) (find test ys)
find_append test [] ys = refl
find_append test (x ∷ xs) ys = cases (test x) x (find test xs) (find test ys) (find test (xs ++ ys)) (find_append test xs ys)
  where
    cases : {X : Type 0} (t : Bool) (x : X) (o p q : Option X) → q ≡ option_or o p → cond t (Some x) q ≡ option_or (cond t (Some x) o) p
    cases true x o p q e = refl
    cases false x o p q e = e

same_number : (m k : ℕ) → m ≡ k → eqb m k ≡ true
same_number m k e = grind (arith, nat_tests, e)

less_number : (m n k : ℕ) → m ≡ n → k < n → eqb m k ≡ false
less_number m n k e l = grind (arith, nat_tests, e, l)

pub lt_or_le : (k n : ℕ) → (k < n) ⊎ (n ≤ k)
lt_or_le k n = cases (ltb k n) refl
  where
    cases : (t : Bool) → ltb k n ≡ t → (k < n) ⊎ (n ≤ k)
    cases true e = inl (grind (arith, nat_tests, e))
    cases false e = inr (grind (arith, nat_tests, e))

lt_or_eq : (k n : ℕ) → k ≤ n → (k < n) ⊎ (k ≡ n)
lt_or_eq k n h = elim (lt_or_le k n) [ inl w ↦ inl w | inr w ↦ inr (omega (arith, w, h)) ]

-- a number that is none of these rows'
none_above : (f : ℕ → Option Row) (next n k : ℕ) → ((j : ℕ) (r : Row) → f j ≡ Some r → IsNumbered next j r) → n ≤ k → row_numbered (rows_below f n) k ≡ None
unfolding rows_below
none_above f next zero k h l = refl
none_above f next (suc n) k h l =
    find_append (λ (r : Row). eqb r.number k) (rows_below f n) (option_to_list (f n))
    ∙ (ap (λ (o : Option Row). option_or o (row_numbered (option_to_list (f n)) k)) (none_above f next n k h (omega arith))
    ∙ other (f n) refl)
  where
    other : (o : Option Row) → f n ≡ o → row_numbered (option_to_list o) k ≡ None
    other None e = refl
    other (Some r) e = ap (λ (t : Bool). cond t (Some r) None) (not_it r.number (h n r e).own)
      where
        not_it : (m : ℕ) → m ≡ n → eqb m k ≡ false
        not_it m e = grind (arith, nat_tests, e, l)

-- the row with a number
numbered_there : (f : ℕ → Option Row) (next n k : ℕ) → ((j : ℕ) (r : Row) → f j ≡ Some r → IsNumbered next j r) → k < n → row_numbered (rows_below f n) k ≡ f k
unfolding rows_below
numbered_there f next zero k h l = absurd (omega arith)
numbered_there f next (suc n) k h l =
    find_append (λ (r : Row). eqb r.number k) (rows_below f n) (option_to_list (f n)) ∙ elim (lt_or_eq k n (omega arith)) [ inl w ↦ earlier (numbered_there f next n k h w) w | inr w ↦ here w ]
  where
    own : (o : Option Row) → f n ≡ o → n ≡ k → row_numbered (option_to_list o) k ≡ o
    own None e w = refl
    own (Some r) e w = ap (λ (t : Bool). cond t (Some r) None) (same_number r.number k ((h n r e).own ∙ w))

    other : (o : Option Row) → f n ≡ o → k < n → row_numbered (option_to_list o) k ≡ None
    other None e w = refl
    other (Some r) e w = ap (λ (t : Bool). cond t (Some r) None) (less_number r.number n k (h n r e).own w)

    right : (a : Option Row) → option_or a None ≡ a
    right None = refl
    right (Some r) = refl

    earlier : row_numbered (rows_below f n) k ≡ f k → k < n → option_or (row_numbered (rows_below f n) k) (row_numbered (option_to_list (f n)) k) ≡ f k
    earlier ih w =
        ap (option_or (row_numbered (rows_below f n) k)) (other (f n) refl w)
        ∙ (right (row_numbered (rows_below f n) k) ∙ ih)

    here : k ≡ n → option_or (row_numbered (rows_below f n) k) (row_numbered (option_to_list (f n)) k) ≡ f k
    here w =
        ap (λ (o : Option Row). option_or o (row_numbered (option_to_list (f n)) k)) (none_above f next n k h (omega (arith, w)))
        ∙ (own (f n) refl (sym w) ∙ ap f (sym w))

none_given : (f : ℕ → Option Row) (next k : ℕ) → ((j : ℕ) (r : Row) → f j ≡ Some r → IsNumbered next j r) → next ≤ k → f k ≡ None
none_given f next k h l = cases (f k) refl
  where
    cases : (o : Option Row) → f k ≡ o → o ≡ None
    cases None e = refl
    cases (Some r) e = absurd (omega (arith, (h k r e).given, l))

pub number_is : (f : ℕ → Option Row) (next k : ℕ) → ((j : ℕ) (r : Row) → f j ≡ Some r → IsNumbered next j r) → row_numbered (rows_below f next) k ≡ f k
number_is f next k h = elim (lt_or_le k next) [ inl w ↦ numbered_there f next next k h w | inr w ↦ none_above f next next k h w ∙ sym (none_given f next k h w) ]

-- the path of the row with a number
pub path_is : (f : ℕ → Option Row) (next k : ℕ) → ((j : ℕ) (r : Row) → f j ≡ Some r → IsNumbered next j r) → path_with (rows_below f next) k ≡ path_at f k
path_is f next k h = ap (λ (o : Option Row). cond (eqb k 0) (Some []) (option_map (λ (r : Row). r.path) o)) (number_is f next k h)

-- no rows
pub below_none : (f : ℕ → Option Row) (n : ℕ) → ((k : ℕ) → f k ≡ None) → rows_below f n ≡ []
unfolding rows_below
below_none f zero h = refl
below_none f (suc n) h =
    ap (λ (l : List Row). l ++ option_to_list (f n)) (below_none f n h) ∙ ap option_to_list (h n)

-- the same rows, next number and flag make the same database
pub same_whole : (xs ys : List Row) (n m : ℕ) (a b : Bool) → xs ≡ ys → n ≡ m → a ≡ b → record no_rows { rows = xs; next = n; links = a } ≡ (let s : Rows = record no_rows { rows = ys; next = m; links = b } in s)
same_whole xs ys n m a b e f g =
    let make : List Row → ℕ → Bool → Rows = (λ l k t. record no_rows { rows = l; next = k; links = t }) in
    ap (λ (l : List Row). make l n a) e ∙ (ap (λ (k : ℕ). make ys k a) f ∙ ap (make ys m) g)
