-- The database as a list of rows.
use Rattle.std.specs.Prelude.{ℕ, ◌+◌, ◌*◌, Bool, true, false, not, ◌&&◌, ◌==◌, if◌then◌else◌, List, [], ◌∷◌, length, sum_by, Option, Some, None}
use Rattle.std.specs.Option.{is_some, option_map}
use Rattle.std.specs.List.{find, filter}
use Rattle.odb_value.specs.Paths.{same_path, is_front}
use Rattle.odb_value.specs.Values.{HeldValue}
use Rattle.odb_tree.specs.declared.rows.Row.{Row}

-- A database: its rows in order of making, which is the order of their numbers, and the number of the next row.
-- Numbers begin with 1 and are never used again. A database keeps links, or none.
pub record Rows : Type 0 where
  pub rows : List Row
  pub next : ℕ
  pub links : Bool

-- the new database, which keeps no links
abbrev pub no_rows : Rows
no_rows = record { rows = []; next = 1; links = false }

-- a row with a value is a key, any other a directory
abbrev pub is_key : Row → Bool
is_key r = is_some r.value

-- the row at a path
abbrev pub row_at : List Row → List (List ℕ) → Option Row
row_at rows p = find (λ (r : Row). same_path r.path p) rows

-- the row with a number
abbrev pub row_numbered : List Row → ℕ → Option Row
row_numbered rows number = find (λ (r : Row). r.number == number) rows

-- the row with a new value
abbrev pub change_row : (HeldValue → HeldValue) → Row → Row
change_row f r = record { number = r.number; path = r.path; value = option_map f r.value }

-- the row at the path with a new value, in its place
abbrev pub change_at : List Row → List (List ℕ) → (HeldValue → HeldValue) → List Row
change_at [] p f = []
change_at (r ∷ rs) p f = if same_path r.path p then change_row f r ∷ rs else r ∷ change_at rs p f

-- the rows that are neither the row at the path nor below it; with the path of the root none
abbrev pub rows_outside : List Row → List (List ℕ) → List Row
rows_outside rows p = filter (λ (r : Row). not (is_front p r.path)) rows

-- the first path is that of a directory, and the second of what stands in it
abbrev pub is_child : List (List ℕ) → List (List ℕ) → Bool
is_child p q = (length q == length p + 1) && is_front p q

-- the row is of this kind, a key or a directory
abbrev pub is_kind : (keys : Bool) → Row → Bool
is_kind true r = is_key r
is_kind false r = not (is_key r)

-- the row is a key, or a directory, in this directory
abbrev pub is_listed : (keys : Bool) → List (List ℕ) → Row → Bool
is_listed keys p r = is_kind keys r && is_child p r.path

-- the keys in a directory, in order of making
abbrev pub keys_in : List Row → List (List ℕ) → List Row
keys_in rows p = filter (is_listed true p) rows

-- the directories in a directory, in order of making
abbrev pub dirs_in : List Row → List (List ℕ) → List Row
dirs_in rows p = filter (is_listed false p) rows

-- the bytes of a value: items times item size
abbrev pub bytes_of : HeldValue → ℕ
bytes_of v = length v.items * v.size

abbrev pub bytes_in : Option HeldValue → ℕ
bytes_in None = 0
bytes_in (Some v) = bytes_of v

abbrev pub bytes_of_row : Row → ℕ
bytes_of_row r = bytes_in r.value

-- the bytes of all values
abbrev pub total_of : List Row → ℕ
total_of rows = sum_by bytes_of_row rows
