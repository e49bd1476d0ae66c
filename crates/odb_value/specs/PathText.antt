-- The text of a path, both ways, and what is wrong with a text that is no path.
use Rattle.std.specs.Prelude.{◌≡◌, ◌≢◌, ℕ, ◌+◌, ◌-◌, ◌==◌, List, [], ◌∷◌, length, Option, Some, None, Result, Ok, Err, IsOk, nat_lt, if◌then◌else◌, codes}
use Rattle.std.specs.Option.{option_or}
use Rattle.std.specs.List.{slice_split, flat_map}
use Rattle.daq_types.specs.Names.{breaks_name}
use Rattle.odb_value.specs.declared.path_refusals.PathRefusal.{PathRefusal}
use Rattle.odb_value.specs.declared.path_refusals.PathRefusal.TheVariants.{EmptyName, LongName, BadByte, TooDeep, NoMemory}
use Rattle.odb_value.specs.Paths.{depth_limit}

-- the text behind a first slash, which may be absent
abbrev pub behind_slash : List ℕ → List ℕ
behind_slash [] = []
behind_slash (b ∷ bs) = if b == 47 then bs else b ∷ bs

-- what stands between the slashes
abbrev pub pieces : List ℕ → List (List ℕ)
pieces text = slice_split (λ b. b == 47) text

-- the root has no name
abbrev pub names_behind : List ℕ → List (List ℕ)
names_behind [] = []
names_behind (b ∷ bs) = pieces (b ∷ bs)

-- the names in the text of a path, good ones or not
abbrev pub names_of : List ℕ → List (List ℕ)
names_of text = names_behind (behind_slash text)

-- the first place, from this one on, of a byte that breaks the rule for names of this length
abbrev pub first_break : (size place : ℕ) → List ℕ → Option ℕ
first_break size place [] = None
first_break size place (b ∷ bs) = if breaks_name size place b then Some place else first_break size (place + 1) bs

-- a bad byte of a name counts in the whole text, in which the name begins at this place
abbrev pub byte_fault : (place : ℕ) → Option ℕ → Option PathRefusal
byte_fault place None = None
byte_fault place (Some at) = Some (BadByte (place + at))

-- what is wrong with a name that begins at this place of the text
abbrev pub name_fault : (place : ℕ) → List ℕ → Option PathRefusal
name_fault place name =
    if length name == 0 then Some EmptyName
    else (if nat_lt 31 (length name) then Some LongName
    else byte_fault place (first_break (length name) 0 name))

-- 32 names stand in front of a name already
abbrev pub depth_fault : (depth : ℕ) → Option PathRefusal
depth_fault depth = if nat_lt depth depth_limit then None else Some TooDeep

-- what is wrong with a name that begins at this place of the text and has so many names in front
abbrev pub add_fault : (place depth : ℕ) → List ℕ → Option PathRefusal
add_fault place depth name = option_or (name_fault place name) (depth_fault depth)

-- the first fault of these names; the first of them begins at this place of the text and has so many names in front
abbrev pub first_fault : (place depth : ℕ) → List (List ℕ) → Option PathRefusal
first_fault place depth [] = None
first_fault place depth (name ∷ names) = option_or (add_fault place depth name) (first_fault (place + (length name + 1)) (depth + 1) names)

abbrev pub names_or : List (List ℕ) → Option PathRefusal → Result (List (List ℕ)) PathRefusal
names_or names None = Ok names
names_or names (Some refusal) = Err refusal

-- where the names begin
abbrev pub names_start : List ℕ → ℕ
names_start text = length text - length (behind_slash text)

-- the path of a text, or the first fault
abbrev pub path_reply : List ℕ → Result (List (List ℕ)) PathRefusal
path_reply text = names_or (names_of text) (first_fault (names_start text) 0 (names_of text))

-- The reply is the one that is due, or memory was wanting, which excuses no fault: it is so only where the text is a path's.
abbrev pub GivesNames : Result (List (List ℕ)) PathRefusal → (due : Result (List (List ℕ)) PathRefusal) → Type 0
GivesNames (Ok path) due = due ≡ Ok path
GivesNames (Err refusal) due = (refusal ≢ NoMemory → due ≡ Err refusal) × (refusal ≡ NoMemory → IsOk due)

-- the text of a path: its names from the root down, each behind a slash; the root is a slash alone
abbrev pub path_text : List (List ℕ) → List ℕ
path_text [] = codes "/"
path_text (name ∷ names) = flat_map (λ (n : List ℕ). 47 ∷ n) (name ∷ names)
