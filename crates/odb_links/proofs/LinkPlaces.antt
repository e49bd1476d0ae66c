-- Finding links by the numbers of their rows.
use Rattle.std.proofs.Common.{◌≡◌, ℕ, zero, suc, ◌+◌, ◌<◌, ◌≤◌, ◌≢◌, ◌^◌, Bool, true, false, cond, eqb, List, [], ◌∷◌, ◌++◌, length, get_or, Some, None, Result, Ok, Err, MatchResult, refl, sym, ap, ◌∙◌, subst, arith, inl, inr}
use Rattle.std.specs.Prelude.{slice_set}
use Rattle.std.specs.Ordering.{nat_cmp, ordering_index, MatchOrdering}
use Rattle.std.specs.declared.cmp.Ordering.{Ordering}
use Rattle.std.specs.declared.cmp.Ordering.TheVariants.{Less, Equal, Greater}
use Rattle.std.specs.Cmp.{ranked}
use Rattle.std.specs.List.Sorted.{IsBinarySearchResult, IsSearchInRange, IsNonDecreasingBy}
use Rattle.std.proofs.lemmas.Bool.{cases_lt}
use Rattle.std.proofs.lemmas.Bool.Decides.{nat_tests}
use Rattle.odb_links.specs.declared.links.Link.{Link}
use Rattle.odb_links.specs.Seen.{link_numbered, LinksRise, with_link}
use Rattle.odb_links.specs.Places.{LinkStands}
use Rattle.odb_links.proofs.Marked.{order_longer}

pub order_wide : (links : List Link) (next : ℕ) → LinksRise 1 links next → next ≤ 2 ^ 32 → LinksRise 1 links (2 ^ 32)
order_wide links next h l = order_longer 1 links next (2 ^ 32) h l

-- numbers rise

row_from : (from : ℕ) (links : List Link) (next i : ℕ) (d : Link) → LinksRise from links next → i < length links → from ≤ (get_or links i d).row
row_from from [] next i d h l = absurd (omega (arith, l))
row_from from (x ∷ xs) next zero d h l = h.0
row_from from (x ∷ xs) next (suc i) d h l = let rest = row_from (x.row + 1) xs next i d h.1 (omega (arith, l)) in omega (arith, rest, h.0)

rows_rise : (from : ℕ) (links : List Link) (next i j : ℕ) (d : Link) → LinksRise from links next → i ≤ j → j < length links → (get_or links i d).row ≤ (get_or links j d).row
rows_rise from [] next i j d h le l = absurd (omega (arith, l))
rows_rise from (x ∷ xs) next zero zero d h le l = omega arith
rows_rise from (x ∷ xs) next zero (suc j) d h le l = let rest = row_from (x.row + 1) xs next j d h.1 (omega (arith, l)) in omega (arith, rest)
rows_rise from (x ∷ xs) next (suc i) zero d h le l = absurd (omega (arith, le))
rows_rise from (x ∷ xs) next (suc i) (suc j) d h le l = rows_rise (x.row + 1) xs next i j d h.1 (omega (arith, le)) (omega (arith, l))

-- the search

equal_if : (a b : ℕ) (r : Ordering) → r ≡ nat_cmp a b → r ≡ Equal → a ≡ b
equal_if a b r is e = subst (λ (o : Ordering). MatchOrdering o (a < b) (a ≡ b) (b < a)) e (ranked a b r is)

less_if : (a b : ℕ) (r : Ordering) → r ≡ nat_cmp a b → r ≡ Less → a < b
less_if a b r is e = subst (λ (o : Ordering). MatchOrdering o (a < b) (a ≡ b) (b < a)) e (ranked a b r is)

greater_if : (a b : ℕ) (r : Ordering) → r ≡ nat_cmp a b → r ≡ Greater → b < a
greater_if a b r is e = subst (λ (o : Ordering). MatchOrdering o (a < b) (a ≡ b) (b < a)) e (ranked a b r is)

index_rises : (a b n : ℕ) (r s : Ordering) → a ≤ b → MatchOrdering r (a < n) (a ≡ n) (n < a) → MatchOrdering s (b < n) (b ≡ n) (n < b) → ordering_index r ≤ ordering_index s
index_rises a b n Less s le p q = omega arith
index_rises a b n Equal Less le p q = absurd (omega arith)
index_rises a b n Equal Equal le p q = omega arith
index_rises a b n Equal Greater le p q = omega arith
index_rises a b n Greater Less le p q = absurd (omega arith)
index_rises a b n Greater Equal le p q = absurd (omega arith)
index_rises a b n Greater Greater le p q = omega arith

searchable : (n : ℕ) (links : List Link) (next : ℕ) → LinksRise 1 links next → IsNonDecreasingBy (λ (l : Link). ordering_index (nat_cmp l.row n)) links
searchable n links next h i j d le below =
    let a : ℕ = (get_or links i d).row in
    let b : ℕ = (get_or links j d).row in
    index_rises a b n (nat_cmp a n) (nat_cmp b n) (rows_rise 1 links next i j d h le below) (ranked a n (nat_cmp a n) refl) (ranked b n (nat_cmp b n) refl)

pub test_true : (a b : ℕ) → a ≡ b → eqb a b ≡ true
test_true a b h = grind (arith, nat_tests, h)

pub test_false : (a b : ℕ) → a ≢ b → eqb a b ≡ false
test_false a b h = grind (arith, nat_tests, h)

-- the link at a place is found, and another put there
found_at : (from : ℕ) (links : List Link) (next at n : ℕ) (d : Link) → LinksRise from links next → at < length links → (get_or links at d).row ≡ n
    → (link_numbered links n ≡ Some (get_or links at d)) × ((target : List (List ℕ)) → with_link links n target ≡ slice_set links at (record { row = n; target = target }))
found_at from [] next at n d h l is = absurd (omega (arith, l))
found_at from (x ∷ xs) next zero n d h l is =
    let here : eqb x.row n ≡ true = test_true x.row n is in (
      ap (λ (t : Bool). cond t (Some x) (link_numbered xs n)) here,
      λ target. ap (λ (t : Bool). cond t (record { row = n; target = target } ∷ xs) (x ∷ with_link xs n target)) here,
    )
found_at from (x ∷ xs) next (suc at) n d h l is =
    let rest = found_at (x.row + 1) xs next at n d h.1 (omega (arith, l)) is in
    let later = row_from (x.row + 1) xs next at d h.1 (omega (arith, l)) in
    let other : eqb x.row n ≡ false = test_false x.row n (λ e. absurd (omega (arith, e, is, later))) in (
      ap (λ (t : Bool). cond t (Some x) (link_numbered xs n)) other ∙ rest.0,
      λ target. ap (λ (t : Bool). cond t (record { row = n; target = target } ∷ xs) (x ∷ with_link xs n target)) other ∙ ap (λ (l : List Link). x ∷ l) (rest.1 target),
    )

not_found : (links : List Link) (n : ℕ) → ((k : ℕ) (d : Link) → k < length links → (get_or links k d).row ≢ n) → link_numbered links n ≡ None
not_found [] n h = refl
not_found (x ∷ xs) n h =
    ap (λ (t : Bool). cond t (Some x) (link_numbered xs n)) (test_false x.row n (h 0 x (omega arith))) ∙ not_found xs n (λ k d l. h (suc k) d (omega (arith, l)))

pub link_found : (links : List Link) (n next : ℕ) (r : Result ℕ ℕ) → LinksRise 1 links next → IsBinarySearchResult (λ (l : Link). nat_cmp l.row n) links r → IsSearchInRange r (length links)
    → MatchResult r (LinkStands links n) (λ _. link_numbered links n ≡ None)
link_found links n next (Ok i) h is range = record {
  below = range;
  row_is = λ d. equal_if (get_or links i d).row n _ refl (is d);
  is = λ d. (found_at 1 links next i n d h range (equal_if (get_or links i d).row n _ refl (is d))).0;
}
link_found links n next (Err i) h is range =
    let at = is (searchable n links next h) in
    not_found links n (λ k d l e. elim (cases_lt k i) [
      | inl w ↦ let less : (get_or links k d).row < n = less_if (get_or links k d).row n _ refl (at.0 k d (omega arith) w) in absurd (omega (arith, less, e))
      | inr w ↦ let more : n < (get_or links k d).row = greater_if (get_or links k d).row n _ refl (at.1 k d w l) in absurd (omega (arith, more, e))
    ])

-- another target at its place, or a link at the end
pub replaced : (links : List Link) (n next at : ℕ) (target : List (List ℕ)) → LinksRise 1 links next → LinkStands links n at → slice_set links at (record { row = n; target = target }) ≡ with_link links n target
replaced links n next at target h stands =
    let d : Link = record { row = n; target = target } in sym ((found_at 1 links next at n d h stands.below (stands.row_is d)).1 target)

pub pushed : (links : List Link) (n : ℕ) (target : List (List ℕ)) → link_numbered links n ≡ None → with_link links n target ≡ links ++ record { row = n; target = target } ∷ []
pushed [] n target h = refl
pushed (x ∷ xs) n target h = at (eqb x.row n) refl h (λ k. pushed xs n target k)
  where
    at : (t : Bool) → eqb x.row n ≡ t → cond t (Some x) (link_numbered xs n) ≡ None → (link_numbered xs n ≡ None → with_link xs n target ≡ xs ++ record { row = n; target = target } ∷ [])
        → cond t (record { row = n; target = target } ∷ xs) (x ∷ with_link xs n target) ≡ x ∷ (xs ++ record { row = n; target = target } ∷ [])
    at true e k ih = absurd (cc)
    at false e k ih = ap (λ (l : List Link). x ∷ l) (ih k)
