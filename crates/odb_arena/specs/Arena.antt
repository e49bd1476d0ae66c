-- The arena: the rows of the nodes, by their numbers, and the names in each directory.
use Rattle.std.specs.Prelude.{◌≡◌, ℕ, zero, suc, ◌<◌, Bool, ◌==◌, if◌then◌else◌, nat_eq, List, [], ◌++◌, length, map, Option, Some, None}
use Rattle.std.specs.Option.{option_map, option_to_list}
use Rattle.std.specs.List.{filter}
use Rattle.std.specs.Map.{lookup}
use Rattle.odb_tree.specs.declared.rows.Row.{Row}
use Rattle.odb_tree.specs.declared.children.Child.{Child}
use Rattle.odb_tree.specs.Rows.{Rows, no_rows, is_listed, change_row, bytes_of_row, total_of}
use Rattle.odb_value.specs.Values.{HeldValue}
use Rattle.odb_tree.specs.Calls.{child_of}
use Rattle.odb_tree.specs.Databases.{IsDatabase}
use Rattle.odb_arena.specs.declared.directory.Directory.{Directory}
use Rattle.odb_arena.specs.declared.node.Node.{Node}
use Rattle.odb_arena.specs.Names.{names_in, entry_of, with_child, without_name}

-- the node with a number
abbrev pub node_at : List (ℕ × Node) → (number : ℕ) → Option Node
node_at nodes number = lookup (nat_eq number) nodes

-- its row
abbrev pub row_of : List (ℕ × Node) → (number : ℕ) → Option Row
row_of nodes number = option_map (λ (n : Node). n.row) (node_at nodes number)

-- the keys, or the directories, in the directory with a number; the root has number 0
abbrev pub names_at : Directory → List (ℕ × Node) → (keys : Bool) → (number : ℕ) → Option (List (List ℕ × Child))
names_at root nodes keys number = if number == 0 then Some (names_in keys root) else option_map (λ (n : Node). names_in keys n.below) (node_at nodes number)

-- the names in the directory with this number after a child was added in the one with the number `at`
abbrev pub names_entered : (keys : Bool) → (at : ℕ) → Child → (number : ℕ) → Option (List (List ℕ × Child)) → Option (List (List ℕ × Child))
names_entered keys at child number names = if number == at then option_map (with_child keys child) names else names

-- the same after a name was taken out of it
abbrev pub names_left : (keys : Bool) → (at : ℕ) → (is_dir : Bool) → List ℕ → (number : ℕ) → Option (List (List ℕ × Child)) → Option (List (List ℕ × Child))
names_left keys at is_dir name number names = if number == at then option_map (without_name keys is_dir name) names else names

-- the rows with numbers below this one, in the order of their numbers
unfoldable pub rows_below : (row : ℕ → Option Row) → ℕ → List Row
rows_below row zero = []
rows_below row (suc n) = rows_below row n ++ option_to_list (row n)

abbrev pub all_rows : (row : ℕ → Option Row) → (next : ℕ) → Rows
all_rows row next = record no_rows { rows = rows_below row next; next = next }

-- the path of the row with a number, and of the root for 0
abbrev pub path_at : (row : ℕ → Option Row) → (number : ℕ) → Option (List (List ℕ))
path_at row number = if number == 0 then Some [] else option_map (λ (r : Row). r.path) (row number)

-- the names in a directory as the rows have them
abbrev pub entries_in : (keys : Bool) → List Row → List (List ℕ) → List (List ℕ × Child)
entries_in keys rows p = map (λ (r : Row). entry_of (child_of r)) (filter (is_listed keys p) rows)

-- a row stands under its own number, which is none that is not given yet
pub record IsNumbered (next number : ℕ) (r : Row) : Type 0 where
  pub own : r.number ≡ number
  pub given : number < next

-- What an arena keeps: its rows are those of a database; each stands under its number; the names in a directory are
-- those of the rows in it; and the counts of rows and bytes are right.
pub record IsArena (row : ℕ → Option Row) (names : Bool → ℕ → Option (List (List ℕ × Child))) (next count bytes : ℕ) : Type 0 where
  pub database : IsDatabase (all_rows row next)
  pub numbered : (number : ℕ) (r : Row) → row number ≡ Some r → IsNumbered next number r
  pub named : (keys : Bool) (number : ℕ) (p : List (List ℕ)) → path_at row number ≡ Some p → names keys number ≡ Some (entries_in keys (rows_below row next) p)
  pub counted : count ≡ length (rows_below row next)
  pub weighed : bytes ≡ total_of (rows_below row next)

-- the nodes with a change of the value of the row with this number
pub record IsAltered (f : HeldValue → HeldValue) (number : ℕ) (old new : List (ℕ × Node)) : Type 0 where
  pub rows : (k : ℕ) → row_of new k ≡ (if number == k then option_map (change_row f) (row_of old k) else row_of old k)
  pub names : (root : Directory) (keys : Bool) (k : ℕ) → names_at root new keys k ≡ names_at root old keys k

-- the bytes of a row's value, and 0 without a row
abbrev pub bytes_of_found : Option Row → ℕ
bytes_of_found None = 0
bytes_of_found (Some r) = bytes_of_row r
