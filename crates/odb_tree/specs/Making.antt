-- New rows: the missing directories of a path from the top, and then the row itself.
use Rattle.std.specs.Prelude.{ℕ, ◌+◌, ◌-◌, List, [], ◌∷◌, ◌++◌, length, drop, Option, Some, None}
use Rattle.odb_value.specs.Values.{HeldValue}
use Rattle.odb_tree.specs.declared.rows.Row.{Row}
use Rattle.odb_tree.specs.Rows.{Rows, row_at}
use Rattle.odb_tree.specs.Lookups.{parent_of}

-- the last name of a path, as a list of one
abbrev pub last_of : List (List ℕ) → List (List ℕ)
last_of p = drop (length p - 1) p

-- the way to a new row: the path of its directory, with the names as they are spelled there, and the directories made
pub record Way : Type 0 where
  pub path : List (List ℕ)
  pub dirs : List Row

-- one directory further: the one that is there, or else a new one, with the next number and the name as given
abbrev pub further : (next : ℕ) → (name : List ℕ) → Way → Option Row → Way
further next name way (Some r) = record { path = r.path; dirs = way.dirs }
further next name way None = record {
  path = way.path ++ name ∷ [];
  dirs = way.dirs ++ record { number = next + length way.dirs; path = way.path ++ name ∷ []; value = None } ∷ [];
}

-- all directories of these names, below one that was reached
abbrev pub go_on : List Row → (next : ℕ) → (reached names : List (List ℕ)) → Way → Way
go_on rows next reached [] way = way
go_on rows next reached (name ∷ names) way =
    go_on rows next (reached ++ name ∷ []) names (further next name way (row_at rows (reached ++ name ∷ [])))

-- the way from the root
abbrev pub no_way : Way
no_way = record { path = []; dirs = [] }

abbrev pub way_to : Rows → List (List ℕ) → Way
way_to s p = go_on s.rows s.next [] (parent_of p) no_way

-- the number of the new row
abbrev pub new_number : Rows → List (List ℕ) → ℕ
new_number s p = s.next + length (way_to s p).dirs

abbrev pub new_row : Rows → List (List ℕ) → Option HeldValue → Row
new_row s p value = record { number = new_number s p; path = (way_to s p).path ++ last_of p; value = value }

-- the database with a new row at the path, and its missing directories before it
abbrev pub created : Rows → List (List ℕ) → Option HeldValue → Rows
created s p value = record s { rows = s.rows ++ ((way_to s p).dirs ++ new_row s p value ∷ []); next = new_number s p + 1 }

-- how many directories of these names are missing, below one that was reached
abbrev pub missing_at : Option Row → ℕ
missing_at None = 1
missing_at (Some r) = 0

abbrev pub missing_from : List Row → (reached names : List (List ℕ)) → ℕ
missing_from rows reached [] = 0
missing_from rows reached (name ∷ names) = missing_at (row_at rows (reached ++ name ∷ [])) + missing_from rows (reached ++ name ∷ []) names
