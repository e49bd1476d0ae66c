-- Looking up a path: the first obstacle on the way, or what stands there.
use Rattle.std.specs.Prelude.{ℕ, ◌-◌, if◌then◌else◌, List, [], ◌∷◌, ◌++◌, length, take, Option, Some, None, Result, Ok, Err}
use Rattle.std.specs.Option.{option_or}
use Rattle.odb_value.specs.Values.{HeldValue}
use Rattle.odb_tree.specs.declared.rows.Row.{Row}
use Rattle.odb_tree.specs.declared.refusals.OdbRefusal.{OdbRefusal}
use Rattle.odb_tree.specs.declared.refusals.OdbRefusal.TheVariants.{NoKey, NotDir, NotValue}
use Rattle.odb_tree.specs.Rows.{row_at, is_key}

-- the path of the directory in which a path stands
abbrev pub parent_of : List (List ℕ) → List (List ℕ)
parent_of p = take (length p - 1) p

-- A row where a directory is needed: a key is an obstacle. Where there is no row, this is the obstacle, if it is one.
abbrev pub obstacle_at : (missing : Option OdbRefusal) → Option Row → Option OdbRefusal
obstacle_at missing None = missing
obstacle_at missing (Some r) = if is_key r then Some NotDir else None

-- the first obstacle along these names, below a directory that was reached
abbrev pub obstacle_from : (missing : Option OdbRefusal) → List Row → (reached names : List (List ℕ)) → Option OdbRefusal
obstacle_from missing rows reached [] = None
obstacle_from missing rows reached (name ∷ names) =
    option_or (obstacle_at missing (row_at rows (reached ++ name ∷ []))) (obstacle_from missing rows (reached ++ name ∷ []) names)

-- the first obstacle on the way to a path: a directory that is missing or a key
abbrev pub obstacle_to : List Row → List (List ℕ) → Option OdbRefusal
obstacle_to rows p = obstacle_from (Some NoKey) rows [] (parent_of p)

-- the same for a call that makes the missing directories: a key alone
abbrev pub obstacle_to_new : List Row → List (List ℕ) → Option OdbRefusal
obstacle_to_new rows p = obstacle_from None rows [] (parent_of p)

abbrev pub found_row : (obstacle : Option OdbRefusal) → Option Row → Result Row OdbRefusal
found_row (Some refusal) row = Err refusal
found_row None None = Err NoKey
found_row None (Some r) = Ok r

-- the row at a path that is not the root's, or why it is not reached
abbrev pub seek : List Row → List (List ℕ) → Result Row OdbRefusal
seek rows p = found_row (obstacle_to rows p) (row_at rows p)

-- a key's number and value
abbrev pub key_of : (number : ℕ) → Option HeldValue → Result (ℕ × HeldValue) OdbRefusal
key_of number None = Err NotValue
key_of number (Some v) = Ok (number, v)

abbrev pub key_or_refusal : Result Row OdbRefusal → Result (ℕ × HeldValue) OdbRefusal
key_or_refusal (Err refusal) = Err refusal
key_or_refusal (Ok r) = key_of r.number r.value

-- the number and the value of the key at a path, or why there is none
abbrev pub seek_key : List Row → List (List ℕ) → Result (ℕ × HeldValue) OdbRefusal
seek_key rows [] = Err NotValue
seek_key rows (name ∷ names) = key_or_refusal (seek rows (name ∷ names))

-- why no directory stands at a path, if so; the root is one
abbrev pub not_dir : Result Row OdbRefusal → Option OdbRefusal
not_dir (Err refusal) = Some refusal
not_dir (Ok r) = if is_key r then Some NotDir else None

abbrev pub dir_fault : List Row → List (List ℕ) → Option OdbRefusal
dir_fault rows [] = None
dir_fault rows (name ∷ names) = not_dir (seek rows (name ∷ names))

-- why nothing stands at a path, if so; the root is there
abbrev pub not_there : Result Row OdbRefusal → Option OdbRefusal
not_there (Err refusal) = Some refusal
not_there (Ok r) = None

abbrev pub absent_fault : List Row → List (List ℕ) → Option OdbRefusal
absent_fault rows [] = None
absent_fault rows (name ∷ names) = not_there (seek rows (name ∷ names))
