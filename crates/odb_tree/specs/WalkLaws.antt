-- Laws of the walk: where new rows stand, and that all other rows keep their places.
use Rattle.std.specs.Prelude.{◌≡◌, ℕ, true, false, List, [], ◌∷◌}
use Rattle.std.specs.List.{flat_map}
use Rattle.odb_value.specs.Paths.{is_front, same_path}
use Rattle.odb_tree.specs.declared.rows.Row.{Row}
use Rattle.odb_tree.specs.Rows.{dirs_in}
use Rattle.odb_tree.specs.Walks.{walk_below}

-- rows none of which is above a path
unfoldable pub NoneAbove : List (List ℕ) → List Row → Type 0
NoneAbove q [] = Unit {0}
NoneAbove q (r ∷ rs) = (is_front r.path q ≡ false) × NoneAbove q rs

-- everything below the directories of a directory
unfoldable pub below_dirs : (depth : ℕ) → List Row → List (List ℕ) → List Row
below_dirs depth rows p = flat_map (λ (d : Row). d ∷ walk_below depth rows d.path) (dirs_in rows p)

-- rows none of which is at a path, and rows of which one is at the most
unfoldable pub NoneAt : List (List ℕ) → List Row → Type 0
NoneAt p [] = Unit {0}
NoneAt p (r ∷ rs) = (same_path r.path p ≡ false) × NoneAt p rs

unfoldable pub OneAt : List (List ℕ) → List Row → Type 0
OneAt p [] = Unit {0}
OneAt p (r ∷ rs) = (same_path r.path p ≡ true → NoneAt p rs) × OneAt p rs
