-- The names of what stands in a directory.
use Rattle.std.specs.Prelude.{ℕ, ◌-◌, Bool, true, false, if◌then◌else◌, nat_eq, List, [], ◌∷◌, ◌++◌, length, map, replicate, slice_get, Option}
use Rattle.std.specs.Option.{option_map, option_or}
use Rattle.std.specs.Char.{to_ascii_lowercase}
use Rattle.std.specs.Cmp.Lexicographic.{pointwise}
use Rattle.std.specs.Map.{lookup, remove_entry}
use Rattle.odb_tree.specs.declared.children.Child.{Child}
use Rattle.odb_arena.specs.declared.directory.Directory.{Directory}

-- a name without the case of its letters: its bytes in lower case, and zeros behind them, 32 in all
abbrev pub folded : List ℕ → List ℕ
folded name = map to_ascii_lowercase name ++ replicate (32 - length name) 0

-- a child under its name
abbrev pub entry_of : Child → List ℕ × Child
entry_of child = (folded child.name, child)

-- the keys in a directory, or its directories, in order of making
abbrev pub names_in : (keys : Bool) → Directory → List (List ℕ × Child)
names_in true d = d.keys.entries
names_in false d = d.dirs.entries

-- what stands under a name among these directories, or else among these keys
abbrev pub child_in : List ℕ → (keys dirs : List (List ℕ × Child)) → Option Child
child_in name keys dirs = option_or (lookup (pointwise nat_eq name) dirs) (lookup (pointwise nat_eq name) keys)

-- the names of this kind with a child behind them, if it is of the kind
abbrev pub with_child : (keys : Bool) → Child → List (List ℕ × Child) → List (List ℕ × Child)
with_child true child names = if child.is_dir then names else names ++ entry_of child ∷ []
with_child false child names = if child.is_dir then names ++ entry_of child ∷ [] else names

-- the names of this kind without one, if it is of the kind
abbrev pub without_name : (keys is_dir : Bool) → List ℕ → List (List ℕ × Child) → List (List ℕ × Child)
without_name true is_dir name names = if is_dir then names else remove_entry (pointwise nat_eq name) names
without_name false is_dir name names = if is_dir then remove_entry (pointwise nat_eq name) names else names

-- the last of these
abbrev pub last_named : List (List ℕ × Child) → Option Child
last_named names = option_map (λ e. e.1) (slice_get names (length names - 1))

-- the last of these directories, or else of these keys
abbrev pub last_child : (keys dirs : List (List ℕ × Child)) → Option Child
last_child keys dirs = option_or (last_named dirs) (last_named keys)
