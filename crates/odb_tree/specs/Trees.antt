-- Well-formed databases, and the place of a new row in the walk.
use Rattle.std.specs.Prelude.{◌≡◌, ℕ, ◌+◌, ◌≤◌, false, List, [], ◌∷◌, ◌++◌, length, ◌⊎◌}
use Rattle.odb_tree.specs.declared.rows.Row.{Row}
use Rattle.odb_tree.specs.Rows.{Rows, is_key}
use Rattle.odb_tree.specs.WalkLaws.{NoneAt}

-- a directory with exactly this path is among these rows
pub record HasDir (rows : List Row) (p : List (List ℕ)) : Type 0 where
  pub front : List Row
  pub dir : Row
  pub back : List Row
  pub there : rows ≡ front ++ dir ∷ back
  pub path : dir.path ≡ p
  pub kind : is_key dir ≡ false

-- this is the path of the root, or exactly that of a directory among these rows
abbrev pub IsDir : List Row → List (List ℕ) → Type 0
IsDir rows p = (p ≡ []) ⊎ HasDir rows p

-- the path is that of the root or of a directory among these rows, spelled as there, and one name more
pub record IsPlaced (rows : List Row) (p : List (List ℕ)) : Type 0 where
  pub parent : List (List ℕ)
  pub name : List ℕ
  pub path : p ≡ parent ++ name ∷ []
  pub there : IsDir rows parent

-- each row stands in the root or in a directory that is made before it
abbrev pub ArePlaced : (before rows : List Row) → Type 0
ArePlaced before [] = Unit {0}
ArePlaced before (r ∷ rs) = IsPlaced before r.path × ArePlaced (before ++ r ∷ []) rs

-- no two rows have the same path
abbrev pub AreApart : List Row → Type 0
AreApart [] = Unit {0}
AreApart (r ∷ rs) = NoneAt r.path rs × AreApart rs

-- the numbers rise from this one on, and are below the next one
abbrev pub AreRising : (from : ℕ) → List Row → (next : ℕ) → Type 0
AreRising from [] next = from ≤ next
AreRising from (r ∷ rs) next = (from ≤ r.number) × AreRising (r.number + 1) rs next

-- The rows are those of a tree: each stands in the root or in a directory made before it, whose names it has as they
-- are spelled there; no two have the same path, told apart without the case of letters; and the numbers, from 1 on,
-- rise and are below that of the next row.
pub record IsTree (s : Rows) : Type 0 where
  pub placed : ArePlaced [] s.rows
  pub apart : AreApart s.rows
  pub numbered : AreRising 1 s.rows s.next

-- the rows with further ones, which take the next numbers
abbrev pub with_rows : Rows → List Row → Rows
with_rows s made = record s { rows = s.rows ++ made; next = s.next + length made }

-- a row that may be made next: it stands in the root or in a directory that is there, nothing has its path, and it has
-- the next number
pub record IsNewRow (s : Rows) (new : Row) : Type 0 where
  pub placed : IsPlaced s.rows new.path
  pub free : NoneAt new.path s.rows
  pub number : new.number ≡ s.next

-- rows that may be made one after the other
abbrev pub AreNew : Rows → (made : List Row) → Type 0
AreNew s [] = Unit {0}
AreNew s (new ∷ made) = IsNewRow s new × AreNew (with_rows s (new ∷ [])) made

-- no path of these rows has more names than so many
abbrev pub AreShort : ℕ → List Row → Type 0
AreShort most [] = Unit {0}
AreShort most (r ∷ rs) = (length r.path ≤ most) × AreShort most rs
