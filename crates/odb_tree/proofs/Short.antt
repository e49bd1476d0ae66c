-- In the walk of a tree at most one row has a path.
use Rattle.std.proofs.Common.{◌≡◌, ℕ, ◌≤◌, Bool, true, false, cond, List, [], ◌∷◌, sum_by, refl, ap, arith}
use Rattle.std.proofs.lemmas.List.Sums.{sum_by-cons}
use Rattle.std.proofs.lemmas.List.Sorted.{sum_by-IsPermutation}
use Rattle.odb_value.specs.Paths.{depth_limit, same_path}
use Rattle.odb_tree.specs.declared.rows.Row.{Row}
use Rattle.odb_tree.specs.Rows.{Rows}
use Rattle.odb_tree.specs.Walks.{walk}
use Rattle.odb_tree.specs.WalkLaws.{NoneAt, OneAt}
use Rattle.odb_tree.specs.Trees.{IsTree, AreShort}
use Rattle.odb_tree.proofs.Trees.{one_at}
use Rattle.odb_tree.proofs.Whole.{has_rows}

-- how many rows are at a path

is_here : List (List ℕ) → Row → ℕ
is_here p r = cond (same_path r.path p) 1 0

here_is : (p : List (List ℕ)) (r : Row) (t : Bool) → same_path r.path p ≡ t → is_here p r ≡ cond t 1 0
unfolding is_here
here_is p r t e = ap (λ (b : Bool). cond b 1 0) e

none_counted : (p : List (List ℕ)) (rows : List Row) → NoneAt p rows → sum_by (is_here p) rows ≡ 0
unfolding NoneAt
none_counted p [] h = refl
none_counted p (r ∷ rs) h = omega (arith, sum_by-cons (is_here p) r rs, here_is p r false h.0, none_counted p rs h.1)

one_counted : (p : List (List ℕ)) (rows : List Row) → OneAt p rows → sum_by (is_here p) rows ≤ 1
unfolding OneAt
one_counted p [] h = omega arith
one_counted p (r ∷ rs) h = cases (same_path r.path p) refl (one_counted p rs h.1)
  where
    cases : (t : Bool) → same_path r.path p ≡ t → sum_by (is_here p) rs ≤ 1 → sum_by (is_here p) (r ∷ rs) ≤ 1
    cases true e k = omega (arith, sum_by-cons (is_here p) r rs, here_is p r true e, none_counted p rs (h.0 e))
    cases false e k = omega (arith, sum_by-cons (is_here p) r rs, here_is p r false e, k)

counted_none : (p : List (List ℕ)) (rows : List Row) → sum_by (is_here p) rows ≡ 0 → NoneAt p rows
unfolding NoneAt
counted_none p [] h = tt
counted_none p (r ∷ rs) h = cases (same_path r.path p) refl (λ k. counted_none p rs k)
  where
    cases : (t : Bool) → same_path r.path p ≡ t → (sum_by (is_here p) rs ≡ 0 → NoneAt p rs) → NoneAt p (r ∷ rs)
    cases true e k = absurd (omega (arith, sum_by-cons (is_here p) r rs, here_is p r true e, h))
    cases false e k = (e, k (omega (arith, sum_by-cons (is_here p) r rs, h)))

counted_one : (p : List (List ℕ)) (rows : List Row) → sum_by (is_here p) rows ≤ 1 → OneAt p rows
unfolding OneAt
counted_one p [] h = tt
counted_one p (r ∷ rs) h =
    (λ e. counted_none p rs (omega (arith, sum_by-cons (is_here p) r rs, here_is p r true e, h)), counted_one p rs (omega (arith, sum_by-cons (is_here p) r rs, h)))

pub one_in_walk : (s : Rows) (p : List (List ℕ)) → IsTree s → AreShort depth_limit s.rows → OneAt p (walk s)
one_in_walk s p h short =
    counted_one p (walk s) (omega (arith, sum_by-IsPermutation (is_here p) (walk s) s.rows (has_rows s h short), one_counted p s.rows (one_at s.rows p h.apart)))
