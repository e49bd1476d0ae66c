-- The way down to a row with nothing below it, and removal one such row at a time.
use Rattle.std.specs.Prelude.{◌≡◌, ℕ, ◌+◌, ◌≤◌, Bool, true, List, [], length, Option, Some, None}
use Rattle.std.specs.List.{filter}
use Rattle.odb_value.specs.Paths.{is_front}
use Rattle.odb_tree.specs.declared.rows.Row.{Row}
use Rattle.odb_tree.specs.declared.children.Child.{Child}
use Rattle.odb_tree.specs.Rows.{Rows, row_numbered, rows_outside, is_child, is_listed}
use Rattle.odb_tree.specs.Calls.{path_with}

-- a number's path; the root has number 0
abbrev pub HasPath : Rows → (number : ℕ) → Type 0
HasPath s number = (p : List (List ℕ)) × (path_with s.rows number ≡ Some p)

-- the child stands in the directory with this path; without a child, nothing stands there
abbrev pub StandsIn : Rows → (dir : List (List ℕ)) → Option Child → Type 0
StandsIn s dir None = (keys : Bool) → filter (is_listed keys dir) s.rows ≡ []
StandsIn s dir (Some child) = (p : List (List ℕ)) × (path_with s.rows child.row ≡ Some p) × (is_child dir p ≡ true)

-- so many names below a path is that of this number
pub record IsWayDown (s : Rows) (top : List (List ℕ)) (depth number : ℕ) : Type 0 where
  pub path : List (List ℕ)
  pub there : path_with s.rows number ≡ Some path
  pub below : is_front top path ≡ true
  pub long : length path ≡ length top + depth

-- at a path or below it is that of this number, and no other row is below that; the root is it where there are no rows
pub record IsLeafBelow (s : Rows) (top : List (List ℕ)) (number : ℕ) : Type 0 where
  pub path : List (List ℕ)
  pub there : path_with s.rows number ≡ Some path
  pub below : is_front top path ≡ true
  pub alone : (k : ℕ) (r : Row) → row_numbered s.rows k ≡ Some r → is_front path r.path ≡ true → k ≡ number
  pub root : number ≡ 0 → s.rows ≡ []

-- Of the rows at a number's path and below it at least so many went, and no others.
pub record AreRemoved (old s : Rows) (number gone : ℕ) : Type 0 where
  pub path : List (List ℕ)
  pub was : path_with old.rows number ≡ Some path
  pub there : path_with s.rows number ≡ Some path
  pub left : rows_outside s.rows path ≡ rows_outside old.rows path
  pub next : s.next ≡ old.next
  pub links : s.links ≡ old.links
  pub fewer : length s.rows + gone ≤ length old.rows
