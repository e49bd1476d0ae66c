-- Links: rows of type LINK, whose text is that of a path, and the path that a call goes to by them.
use Rattle.std.specs.Prelude.{◌≡◌, ℕ, zero, suc, ◌+◌, ◌≤◌, nat_lt, ◌||◌, ◌&&◌, if◌then◌else◌, Bool, true, false, List, [], ◌∷◌, ◌++◌, length, Option, Some, None, Result, Ok, Err}
use Rattle.std.specs.Option.{option_or, is_some}
use Rattle.odb_value.specs.Paths.{depth_limit}
use Rattle.odb_value.specs.PathText.{path_reply}
use Rattle.odb_value.specs.declared.path_refusals.PathRefusal.{PathRefusal}
use Rattle.odb_value.specs.declared.items.Item.{Item}
use Rattle.odb_value.specs.declared.items.Item.TheVariants.{Text}
use Rattle.odb_value.specs.Values.{HeldValue}
use Rattle.odb_value.specs.LinkValues.{is_link_type}
use Rattle.odb_tree.specs.declared.rows.Row.{Row}
use Rattle.odb_tree.specs.declared.refusals.OdbRefusal.{OdbRefusal}
use Rattle.odb_tree.specs.declared.refusals.OdbRefusal.TheVariants.{BadLink}
use Rattle.odb_tree.specs.Rows.{Rows, row_at}

-- whether it is the value of a link
abbrev pub is_link_value : Option HeldValue → Bool
is_link_value None = false
is_link_value (Some v) = is_link_type v.tid

abbrev pub is_link : Row → Bool
is_link r = is_link_value r.value

-- the path that a link goes to

abbrev pub path_or_root : Result (List (List ℕ)) PathRefusal → List (List ℕ)
path_or_root (Ok p) = p
path_or_root (Err why) = []

abbrev pub target_of_items : List Item → List (List ℕ)
target_of_items (Text text ∷ items) = path_or_root (path_reply text)
target_of_items items = []

abbrev pub target_of_value : Option HeldValue → List (List ℕ)
target_of_value None = []
target_of_value (Some v) = target_of_items v.items

abbrev pub target_of : Row → List (List ℕ)
target_of r = target_of_value r.value

-- a link on a path: where it goes to, and the names behind it
pub record Met : Type 0 where
  pub target : List (List ℕ)
  pub rest : List (List ℕ)

-- there are names behind
abbrev pub has_names : List (List ℕ) → Bool
has_names [] = false
has_names (name ∷ names) = true

-- the row is a link that is followed: one with names behind it, or with `last` any
abbrev pub met_at : (last : Bool) → (rest : List (List ℕ)) → Option Row → Option Met
met_at last rest None = None
met_at last rest (Some r) = if is_link r && (last || has_names rest) then Some (record { target = target_of r; rest = rest }) else None

-- the first link that is followed along these names, below what was passed
abbrev pub first_link : List Row → (last : Bool) → (passed names : List (List ℕ)) → Option Met
first_link rows last passed [] = None
first_link rows last passed (name ∷ names) =
    option_or (met_at last names (row_at rows (passed ++ name ∷ []))) (first_link rows last (passed ++ name ∷ []) names)

-- The link's target takes the place of the names so far, and the walk begins again: `next` is how it goes on. So many
-- links were followed before. There is no path of more than 32 names.
abbrev pub follow : (next : List (List ℕ) → Result (List (List ℕ)) OdbRefusal) → (steps : ℕ) → List (List ℕ) → Option Met → Result (List (List ℕ)) OdbRefusal
follow next steps p None = Ok p
follow next steps p (Some m) = if nat_lt depth_limit (length m.target + length m.rest) then Err (BadLink steps) else next (m.target ++ m.rest)

-- the path after its links, of which so many more may be followed, and so many were
abbrev pub lead : (more : ℕ) → List Row → (last : Bool) → (steps : ℕ) → List (List ℕ) → Result (List (List ℕ)) OdbRefusal
lead zero rows last steps p = follow (λ _. Err (BadLink steps)) steps p (first_link rows last [] p)
lead (suc more) rows last steps p = follow (lead more rows last (steps + 1)) steps p (first_link rows last [] p)

-- the most links that are followed
abbrev pub links_limit : ℕ
links_limit = 16

-- The path after its links. With `last` a link at its end is followed too. A database that keeps no links has none.
abbrev pub resolved : Rows → List (List ℕ) → (last : Bool) → Result (List (List ℕ)) OdbRefusal
resolved s p last = if s.links then lead links_limit s.rows last 0 p else Ok p

-- a link is followed on the path
abbrev pub meets_link : Rows → List (List ℕ) → (last : Bool) → Bool
meets_link s p last = s.links && is_some (first_link s.rows last [] p)

-- the reply at the path after its links
abbrev pub through : {X : Type 0} → Result (List (List ℕ)) OdbRefusal → (List (List ℕ) → Result X OdbRefusal) → Result X OdbRefusal
through (Ok q) reply = reply q
through (Err refusal) reply = Err refusal

-- the rows that a call leaves at the path after its links
abbrev pub led_to : Rows → Result (List (List ℕ)) OdbRefusal → (List (List ℕ) → Rows) → Rows
led_to s (Ok q) after = after q
led_to s (Err refusal) after = s

-- The numbers of the rows at the first of these names, the first two and so on, below what was passed: as far as rows
-- are there. No link is followed.
abbrev pub number_and : Option Row → List ℕ → List ℕ
number_and None numbers = []
number_and (Some r) numbers = r.number ∷ numbers

abbrev pub numbers_along : List Row → (passed names : List (List ℕ)) → List ℕ
numbers_along rows passed [] = []
numbers_along rows passed (name ∷ names) = number_and (row_at rows (passed ++ name ∷ [])) (numbers_along rows (passed ++ name ∷ []) names)
