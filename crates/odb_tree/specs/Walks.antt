-- The walk through the database from the root: in each directory the keys first and then the directories, each kind in
-- order of making, and behind each directory what is below it.
use Rattle.std.specs.Prelude.{ℕ, zero, suc, if◌then◌else◌, List, [], ◌∷◌, ◌++◌}
use Rattle.std.specs.List.{filter, flat_map}
use Rattle.odb_value.specs.Paths.{depth_limit, same_path}
use Rattle.odb_value.specs.Values.{HeldValue}
use Rattle.odb_tree.specs.declared.rows.Row.{Row}
use Rattle.odb_tree.specs.Rows.{Rows, change_row, is_child, keys_in, dirs_in}

-- everything below a directory, down to so many levels
unfoldable pub walk_below : (depth : ℕ) → List Row → List (List ℕ) → List Row
walk_below zero rows p = []
walk_below (suc depth) rows p = keys_in rows p ++ flat_map (λ (d : Row). d ∷ walk_below depth rows d.path) (dirs_in rows p)

-- the whole database; a path has at most 32 names
unfoldable pub walk : Rows → List Row
walk s = walk_below depth_limit s.rows []

-- a row with this path has the new value, any other stays
abbrev pub changed_at : List (List ℕ) → (HeldValue → HeldValue) → Row → Row
changed_at p f r = if same_path r.path p then change_row f r else r

-- of some rows those that stand directly in a directory
abbrev pub directly_below : List (List ℕ) → List Row → List Row
directly_below p rows = filter (λ (r : Row). is_child p r.path) rows
