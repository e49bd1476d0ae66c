-- The walk has the rows of the database, each once.
use Rattle.std.proofs.Common.{◌≡◌, List, [], ◌∷◌, ◌++◌, refl, sym, ◌∙◌, subst, append_assoc, append-nil, IsPermutation}
use Rattle.std.proofs.lemmas.List.Sorted.{IsPermutation-refl, IsPermutation-cons, IsPermutation-trans, IsPermutation-middle, IsPermutation-append_comm}
use Rattle.odb_value.specs.Paths.{depth_limit}
use Rattle.odb_tree.specs.declared.rows.Row.{Row}
use Rattle.odb_tree.specs.Rows.{Rows, no_rows, is_key}
use Rattle.odb_tree.specs.Walks.{walk_below, walk}
use Rattle.odb_tree.specs.Trees.{ArePlaced, AreApart, AreShort, IsTree}
use Rattle.odb_tree.specs.Places.{IsInserted, stands_behind}
use Rattle.odb_tree.proofs.Trees.{apart_more, placed_more, rows_as}
use Rattle.odb_tree.proofs.Placed.{none_around, inserted_in}

-- a row in the midst of a list
amid : (front back rest before xs ys : List Row) (new : Row) → xs ≡ front ++ (back ++ rest) → ys ≡ front ++ (back ++ new ∷ rest) → IsPermutation xs before → IsPermutation ys (before ++ new ∷ [])
amid front back rest before xs ys new was is same =
    let whole : IsPermutation ys (new ∷ xs) =
    subst (λ (l : List Row). IsPermutation l (new ∷ xs)) (sym (is ∙ sym (append_assoc front back (new ∷ rest))))
    (subst (λ (l : List Row). IsPermutation ((front ++ back) ++ new ∷ rest) (new ∷ l)) (append_assoc front back rest ∙ sym was) (IsPermutation-middle (front ++ back) new rest)) in
    IsPermutation-trans ys (new ∷ xs) (before ++ new ∷ []) whole
    (IsPermutation-trans (new ∷ xs) (new ∷ before) (before ++ new ∷ []) (IsPermutation-cons new xs before same) (IsPermutation-append_comm (new ∷ []) before))

one_more : (before : List Row) (new : Row) → IsInserted (rows_as no_rows before 0) new → IsPermutation (walk_below depth_limit before []) before
    → IsPermutation (walk_below depth_limit (before ++ new ∷ []) []) (before ++ new ∷ [])
unfolding walk
one_more before new h same =
    amid h.front (stands_behind (is_key new) before h.parent) h.rest before (walk_below depth_limit before []) (walk_below depth_limit (before ++ new ∷ []) []) new h.before h.after same

all_rows : (before rows : List Row) → ArePlaced [] before → AreApart before → ArePlaced before rows → AreApart (before ++ rows) → AreShort depth_limit rows
    → IsPermutation (walk_below depth_limit before []) before → IsPermutation (walk_below depth_limit (before ++ rows) []) (before ++ rows)
all_rows before [] placed apart more all short same =
    subst (λ (l : List Row). IsPermutation (walk_below depth_limit l []) l) (sym (append-nil before)) same
all_rows before (r ∷ rs) placed apart more all short same =
    let free = none_around before r rs all in
    subst (λ (l : List Row). IsPermutation (walk_below depth_limit l []) l) (append_assoc before (r ∷ []) rs)
    (all_rows (before ++ r ∷ []) rs (placed_more [] before r placed more.0) (apart_more before r apart free.0) more.1
    (subst AreApart (sym (append_assoc before (r ∷ []) rs)) all) short.1
    (one_more before r (inserted_in (rows_as no_rows before 0) r placed apart more.0 free.0 short.0) same))

no_walk : walk_below depth_limit [] [] ≡ []
unfolding walk_below
no_walk = refl

pub has_rows : (s : Rows) → IsTree s → AreShort depth_limit s.rows → IsPermutation (walk s) s.rows
unfolding walk
has_rows s h short =
    all_rows [] s.rows tt tt h.placed h.apart short (subst (λ (l : List Row). IsPermutation l []) (sym no_walk) (IsPermutation-refl []))
