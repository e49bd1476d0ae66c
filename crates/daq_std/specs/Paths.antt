-- Where a file of a folder lies.
use Rattle.std.specs.Prelude.{◌≡◌, ◌≢◌, ℕ, ◌-◌, ◌<◌, ◌≤◌, ◌==◌, if◌then◌else◌, Bool, List, ◌∷◌, [], ◌++◌, length, take, slice_index, Option, Some}
use Rattle.daq_std.specs.SystemCalls.{KeptName}

-- the byte `/`
abbrev pub slash : ℕ
slash = 47

-- whether a name is taken from the root of the system
abbrev pub is_rooted : List ℕ → Bool
is_rooted name = slice_index name 0 == slash

-- the path of a name: from the root where it begins with a slash, and below the folder else
abbrev pub path_in : (folder name : List ℕ) → List ℕ
path_in folder name = if is_rooted name then name else (folder ++ (slash ∷ [])) ++ name

-- The first bytes of a name, so many, are the folder in which its file lies: they end with the last slash; none where there is no
-- slash.
pub record IsFolderPart (name : List ℕ) (count : ℕ) : Type 0 where
  pub within : count ≤ length name
  pub ends : 0 < count → slice_index name (count - 1) ≡ slash
  pub behind : (place : ℕ) → count ≤ place → place < length name → slice_index name place ≢ slash

-- The system put the file that was opened under this path on the disk, and then the folder in which the file of a name lies.
pub record KeepsName (folder name file : List ℕ) (kept : Option KeptName) : Type 0 where
  pub count : ℕ
  pub is_folder : IsFolderPart name count
  pub kept_is : kept ≡ Some (record { folder = path_in folder (take count name); file = file })
