-- How far directories lead along some names.
use Rattle.std.specs.Prelude.{◌≡◌, ℕ, ◌+◌, ◌<◌, ◌≤◌, Bool, true, false, ◌==◌, if◌then◌else◌, List, [], length, take, drop, Option, Some, None}
use Rattle.odb_value.specs.Paths.{same_path}
use Rattle.odb_tree.specs.declared.rows.Row.{Row}
use Rattle.odb_tree.specs.declared.refusals.OdbRefusal.{OdbRefusal}
use Rattle.odb_tree.specs.declared.refusals.OdbRefusal.TheVariants.{NotDir}
use Rattle.odb_tree.specs.Rows.{row_at, is_key}
use Rattle.odb_tree.specs.Lookups.{obstacle_from}
use Rattle.odb_tree.specs.Making.{no_way, go_on, missing_from}
use Rattle.odb_tree.specs.Calls.{path_with}
use Rattle.odb_tree.specs.Trees.{IsDir}
use Rattle.odb_arena.specs.declared.reaching.Reached.{Reached}

-- directories lead along so many of the names to the one with this number, so that whatever is said of all the names
-- from the root is said of the others from there
pub record LeadsTo (rows : List Row) (names : List (List ℕ)) (depth at : ℕ) : Type 0 where
  pub within : depth ≤ length names
  pub path : List (List ℕ)
  pub there : path_with rows at ≡ Some path
  pub same : same_path path (take depth names) ≡ true
  pub dir : IsDir rows path
  pub clear : (missing : Option OdbRefusal) → obstacle_from missing rows [] names ≡ obstacle_from missing rows (take depth names) (drop depth names)
  pub missing : missing_from rows [] names ≡ missing_from rows (take depth names) (drop depth names)
  pub way : (next : ℕ) → go_on rows next [] names no_way ≡ go_on rows next (take depth names) (drop depth names) (record { path = path; dirs = [] })

-- a key, which blocks the way, or nothing
abbrev pub StopsAtRow : (blocked : Bool) → Option Row → Type 0
StopsAtRow true row = (r : Row) × (row ≡ Some r) × (is_key r ≡ true)
StopsAtRow false row = row ≡ None

-- as far as directories lead
pub record IsReached (rows : List Row) (names : List (List ℕ)) (reached : Reached) : Type 0 where
  pub leads : LeadsTo rows names reached.depth reached.at
  pub stops : reached.depth < length names → StopsAtRow reached.blocked (row_at rows (take (reached.depth + 1) names))

-- the obstacle on the way along so many names; where a directory is missing, it is this one, if it is one
abbrev pub obstacle_met : Reached → (len : ℕ) → (missing : Option OdbRefusal) → Option OdbRefusal
obstacle_met reached len missing = if reached.depth == len then None else (if reached.blocked then Some NotDir else missing)
