-- The places of rows in the walk through the database.
use Rattle.std.specs.Prelude.{◌≡◌, ℕ, ◌-◌, Bool, true, false, List, [], ◌∷◌, ◌++◌, length, Option, ◌⊎◌}
use Rattle.odb_value.specs.Paths.{depth_limit}
use Rattle.odb_value.specs.Values.{HeldValue}
use Rattle.odb_tree.specs.declared.rows.Row.{Row}
use Rattle.odb_tree.specs.Rows.{Rows, is_key, keys_in}
use Rattle.odb_tree.specs.Making.{way_to, new_row}
use Rattle.odb_tree.specs.Walks.{walk_below, walk}
use Rattle.odb_tree.specs.Trees.{with_rows}

-- the walk so far ends in the row of this directory
pub record EndsIn (front : List Row) (p : List (List ℕ)) : Type 0 where
  pub earlier : List Row
  pub dir : Row
  pub last : front ≡ earlier ++ dir ∷ []
  pub path : dir.path ≡ p
  pub kind : is_key dir ≡ false

-- what is in a directory begins here: the root's at the front of the walk, any other's right behind the directory's row
abbrev pub BeginsAt : (front : List Row) → (p : List (List ℕ)) → Type 0
BeginsAt front p = ((p ≡ []) × (front ≡ [])) ⊎ EndsIn front p

-- what of a directory a new row in it stands behind: a key behind the keys there, a directory behind everything below
abbrev pub stands_behind : (key : Bool) → List Row → (p : List (List ℕ)) → List Row
stands_behind true rows p = keys_in rows p
stands_behind false rows p = walk_below (depth_limit - length p) rows p

-- With the new row the walk is as it was, but for the new row in its place: right behind the keys of its directory if it
-- is a key, and right behind everything below its directory if it is a directory.
pub record IsInserted (s : Rows) (new : Row) : Type 0 where
  pub parent : List (List ℕ)
  pub name : List ℕ
  pub path : new.path ≡ parent ++ name ∷ []
  pub front : List Row
  pub rest : List Row
  pub begins : BeginsAt front parent
  pub before : walk s ≡ front ++ (stands_behind (is_key new) s.rows parent ++ rest)
  pub after : walk (with_rows s (new ∷ [])) ≡ front ++ (stands_behind (is_key new) s.rows parent ++ new ∷ rest)

-- the same of rows made one after the other
abbrev pub AreInserted : Rows → (made : List Row) → Type 0
AreInserted s [] = Unit {0}
AreInserted s (new ∷ made) = IsInserted s new × AreInserted (with_rows s (new ∷ [])) made

-- the rows that a call makes: the missing directories of the path from the top, and then the row itself
abbrev pub made_for : Rows → List (List ℕ) → Option HeldValue → List Row
made_for s p value = (way_to s p).dirs ++ new_row s p value ∷ []
