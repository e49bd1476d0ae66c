-- The walk after calls that make no row.
use Rattle.std.proofs.Common.{◌≡◌, ◌≢◌, List, [], ℕ, map, Option, Some, None, refl}
use Rattle.odb_value.specs.Paths.{depth_limit}
use Rattle.odb_value.specs.declared.items.Item.{Item}
use Rattle.odb_value.specs.Values.{HeldValue}
use Rattle.odb_value.specs.ValueChanges.{put_in, resized}
use Rattle.odb_tree.specs.declared.rows.Row.{Row}
use Rattle.odb_tree.specs.Rows.{Rows, rows_outside, change_at, row_at}
use Rattle.odb_tree.specs.Calls.{after_set_all, after_set_all_at}
use Rattle.odb_tree.specs.Walks.{walk, changed_at}
use Rattle.odb_tree.proofs.WalkLaws.{walk_outside, walk_changed}
use Rattle.odb_tree.specs.WalkLaws.{OneAt}
use Rattle.odb_tree.specs.Trees.{IsTree}
use Rattle.odb_tree.proofs.Trees.{one_at, rows_as}

pub walk_without : (s : Rows) (p : List (List ℕ)) → walk (rows_as s (rows_outside s.rows p) s.next) ≡ rows_outside (walk s) p
unfolding walk
walk_without s p = walk_outside depth_limit s.rows p []

pub walk_with_change : (s : Rows) (p : List (List ℕ)) (f : HeldValue → HeldValue) → IsTree s → walk (rows_as s (change_at s.rows p f) s.next) ≡ map (changed_at p f) (walk s)
unfolding walk
walk_with_change s p f h = walk_changed depth_limit s.rows p f [] (one_at s.rows p h.apart)

pub walk_set : (s : Rows) (p : List (List ℕ)) (index : ℕ) (item : Item) → IsTree s
    → walk (rows_as s (change_at s.rows p (λ v. put_in v index item)) s.next) ≡ map (changed_at p (λ v. put_in v index item)) (walk s)
walk_set s p index item h = walk_with_change s p (λ v. put_in v index item) h

walk_replaced : (s : Rows) (p : List (List ℕ)) (v : HeldValue) (o : Option Row) → IsTree s → o ≢ None → walk (after_set_all_at s p v o) ≡ map (changed_at p (λ _. v)) (walk s)
walk_replaced s p v None h there = absurd (there refl)
walk_replaced s p v (Some r) h there = walk_with_change s p (λ _. v) h

pub walk_set_all : (s : Rows) (p : List (List ℕ)) (v : HeldValue) → IsTree s → row_at s.rows p ≢ None → walk (after_set_all s p v) ≡ map (changed_at p (λ _. v)) (walk s)
walk_set_all s p v h there = walk_replaced s p v (row_at s.rows p) h there

pub walk_resize : (s : Rows) (p : List (List ℕ)) (len : ℕ) → IsTree s
    → walk (rows_as s (change_at s.rows p (λ v. resized v len)) s.next) ≡ map (changed_at p (λ v. resized v len)) (walk s)
walk_resize s p len h = walk_with_change s p (λ v. resized v len) h

pub one_row : (s : Rows) (p : List (List ℕ)) → IsTree s → OneAt p s.rows
one_row s p h = one_at s.rows p h.apart
