-- Rows that are made one below the other, and a row with nothing below it.
use Rattle.std.specs.Prelude.{◌≡◌, ℕ, ◌+◌, ◌-◌, ◌<◌, true, List, [], ◌∷◌, ◌++◌, length, take, Option, Some, None}
use Rattle.std.specs.Option.{unwrap_or}
use Rattle.odb_value.specs.Paths.{is_front}
use Rattle.odb_value.specs.Values.{HeldValue}
use Rattle.odb_tree.specs.declared.rows.Row.{Row}
use Rattle.odb_tree.specs.Rows.{Rows, row_at, row_numbered}
use Rattle.odb_tree.specs.Lookups.{obstacle_to_new}
use Rattle.odb_tree.specs.Making.{created}
use Rattle.odb_tree.specs.Calls.{path_with}
use Rattle.odb_tree.specs.Trees.{with_rows, AreNew}
use Rattle.odb_tree.specs.Databases.{IsDatabase}

-- the path of the directory with a number
abbrev pub dir_path : Rows → (at : ℕ) → List (List ℕ)
dir_path s at = unwrap_or (path_with s.rows at) []

-- the next row, of this name in the directory with this number
abbrev pub row_in_dir : Rows → (at : ℕ) → (name : List ℕ) → Option HeldValue → Row
row_in_dir s at name value = record { number = s.next; path = dir_path s at ++ name ∷ []; value = value }

-- the directory is there, and the row may be made in it
pub record CanAdd (s : Rows) (at : ℕ) (name : List ℕ) (value : Option HeldValue) : Type 0 where
  pub path : List (List ℕ)
  pub there : path_with s.rows at ≡ Some path
  pub database : IsDatabase (with_rows s (row_in_dir s at name value ∷ []))

-- directories one in the other with these names, and a row with the last name in the last of them
abbrev pub chain : (next : ℕ) → (path names : List (List ℕ)) → Option HeldValue → List Row
chain next path [] value = []
chain next path (name ∷ []) value = record { number = next; path = path ++ name ∷ []; value = value } ∷ []
chain next path (name ∷ more ∷ names) value =
    record { number = next; path = path ++ name ∷ []; value = None } ∷ chain (next + 1) (path ++ name ∷ []) (more ∷ names) value

-- they may be made in the directory with this number
pub record CanGrow (s : Rows) (at : ℕ) (names : List (List ℕ)) (value : Option HeldValue) : Type 0 where
  pub path : List (List ℕ)
  pub there : path_with s.rows at ≡ Some path
  pub some : 0 < length names
  pub new : AreNew s (chain s.next path names value)
  pub database : IsDatabase (with_rows s (chain s.next path names value))

-- a row may be made at this path
pub record CanMake (s : Rows) (names : List (List ℕ)) (value : Option HeldValue) : Type 0 where
  pub some : 0 < length names
  pub clear : obstacle_to_new s.rows names ≡ None
  pub free : row_at s.rows names ≡ None
  pub database : IsDatabase (created s names value)

-- a row is there and no other is below it
pub record IsLeaf (s : Rows) (number : ℕ) : Type 0 where
  pub row : Row
  pub there : row_numbered s.rows number ≡ Some row
  pub alone : (k : ℕ) (r : Row) → row_numbered s.rows k ≡ Some r → is_front row.path r.path ≡ true → k ≡ number

-- the rows were made into a database by one more, with this number
pub record IsLastRow (s : Rows) (number : ℕ) : Type 0 where
  pub before : Rows
  pub row : Row
  pub made : s ≡ with_rows before (row ∷ [])
  pub database : IsDatabase before
  pub own : row.number ≡ number
  pub next : number ≡ before.next

-- without the last row
abbrev pub without_last : Rows → Rows
without_last s = record s { rows = take (length s.rows - 1) s.rows; next = s.next - 1 }
