-- What stands in a directory, found again by its path.
use Rattle.std.specs.Prelude.{◌≡◌, ℕ, ◌<◌, Bool, true, false, not, if◌then◌else◌, List, [], ◌∷◌, ◌++◌, length, Option, Some, None, Ok}
use Rattle.odb_value.specs.Paths.{depth_limit, same_path}
use Rattle.odb_tree.specs.declared.rows.Row.{Row}
use Rattle.odb_tree.specs.declared.children.Child.{Child}
use Rattle.odb_tree.specs.Rows.{Rows, row_at, is_key}
use Rattle.odb_tree.specs.Lookups.{key_of, seek_key}
use Rattle.odb_tree.specs.Links.{resolved}
use Rattle.odb_tree.specs.Calls.{child_of}
use Rattle.odb_tree.specs.Trees.{IsDir}
use Rattle.odb_text.specs.Dumps.{row_text, section_text, dirs_text}

-- the path of what stands in a directory
abbrev pub own_path : List (List ℕ) → Child → List (List ℕ)
own_path p child = p ++ child.name ∷ []

-- A row stands in this directory, and its path leads to it.
pub record IsChildIn (s : Rows) (p : List (List ℕ)) (child : Child) : Type 0 where
  pub row : Row
  pub is : child ≡ child_of row
  pub path : row.path ≡ own_path p child
  pub short : length p < depth_limit
  pub found : row_at s.rows (own_path p child) ≡ Some row
  pub key : seek_key s.rows (own_path p child) ≡ key_of row.number row.value
  pub dir : is_key row ≡ false → IsDir s.rows (own_path p child)

-- what a row adds, where there is one
abbrev pub row_part : (Row → List ℕ) → Option Row → List ℕ
row_part f None = []
row_part f (Some r) = f r

-- what of the text is that of a child: the lines of a key, or all of a directory
abbrev pub key_part : Rows → List (List ℕ) → Child → List ℕ
key_part s p child = if child.is_dir then [] else row_part row_text (row_at s.rows (own_path p child))

abbrev pub dir_part : (depth : ℕ) → Rows → List (List ℕ) → Child → List ℕ
dir_part depth s p child =
    if child.is_dir then section_text s.rows (own_path p child) ++ dirs_text depth s.rows (own_path p child) else []

-- the first of these is a key
abbrev pub begins_with_key : List Child → Bool
begins_with_key [] = false
begins_with_key (child ∷ children) = not child.is_dir

-- a path has an end after its links, of which one at its end is not followed
abbrev pub IsLed : Rows → List (List ℕ) → Type 0
IsLed s p = (q : List (List ℕ)) × (resolved s p false ≡ Ok q)

-- The second path is the first one after its links, but for the case of letters.
pub record IsPlaceOf (s : Rows) (p there : List (List ℕ)) : Type 0 where
  pub led : List (List ℕ)
  pub is_led : resolved s p false ≡ Ok led
  pub same : same_path there led ≡ true
