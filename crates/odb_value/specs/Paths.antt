-- Paths of the online database. A path is the list of its names, from the root down; the root is the empty list.
use Rattle.std.specs.Prelude.{ℕ, ◌≤◌, Bool, true, false, ◌&&◌, ◌==◌, List, [], ◌∷◌, length, map, nat_eq, All}
use Rattle.std.specs.Cmp.Lexicographic.{pointwise}
use Rattle.std.specs.Char.{to_ascii_lowercase}
use Rattle.daq_types.specs.Names.{IsName}

-- the most names of a path
abbrev pub depth_limit : ℕ
depth_limit = 32

-- a path: not too many names, each by the rule of names
pub record IsPath (p : List (List ℕ)) : Type 0 where
  pub short : length p ≤ depth_limit
  pub names : All IsName p

-- names are the same where they agree but for the case of their letters
abbrev pub same_name : List ℕ → List ℕ → Bool
same_name a b = pointwise nat_eq (map to_ascii_lowercase a) (map to_ascii_lowercase b)

-- the names of the first path are the first names of the second: it is the second, or a directory above it
abbrev pub is_front : List (List ℕ) → List (List ℕ) → Bool
is_front [] q = true
is_front (a ∷ p) [] = false
is_front (a ∷ p) (b ∷ q) = same_name a b && is_front p q

-- paths are the same where they have as many names, and these are the same one by one
abbrev pub same_path : List (List ℕ) → List (List ℕ) → Bool
same_path p q = (length p == length q) && is_front p q
