-- Links beside a database that keeps none, and the rows that are seen of both.
use Rattle.std.specs.Prelude.{◌≡◌, ℕ, ◌+◌, ◌≤◌, ◌==◌, Bool, true, false, if◌then◌else◌, List, [], ◌∷◌, map, Option, Some, IfSome, All}
use Rattle.std.specs.Option.{is_some}
use Rattle.std.specs.List.{find}
use Rattle.daq_types.specs.declared.types.Tid.{Tid}
use Rattle.daq_types.specs.declared.types.Tid.TheVariants as tid
use Rattle.odb_value.specs.Values.{HeldValue}
use Rattle.odb_tree.specs.declared.rows.Row.{Row}
use Rattle.odb_tree.specs.Rows.{Rows, change_row}
use Rattle.odb_value.specs.LinkValues.{IsLink}
use Rattle.odb_tree.specs.Links.{target_of}
use Rattle.odb_tree.specs.Databases.{IsDatabase}
use Rattle.odb_links.specs.declared.links.Link.{Link}

-- the link whose row has this number
abbrev pub link_numbered : List Link → ℕ → Option Link
link_numbered links number = find (λ (l : Link). l.row == number) links

-- the row with this number is a link's
abbrev pub is_linked : List Link → ℕ → Bool
is_linked links number = is_some (link_numbered links number)

-- the value with another type
abbrev pub typed : Tid → HeldValue → HeldValue
typed type v = record v { tid = type }

-- a row as it is seen: a link's has the type LINK
abbrev pub as_seen : List Link → Row → Row
as_seen links r = if is_linked links r.number then change_row (typed tid.Link) r else r

-- the database with its links: the rows of the one below, of which those of links have the type LINK
abbrev pub seen : List Link → Rows → Rows
seen links s = record { rows = map (as_seen links) s.rows; next = s.next; links = true }

-- the links stand in the order of their rows' numbers, which begin here or later and are below the next one
abbrev pub LinksRise : (from : ℕ) → List Link → (next : ℕ) → Type 0
LinksRise from [] next = from ≤ next
LinksRise from (l ∷ ls) next = (from ≤ l.row) × LinksRise (l.row + 1) ls next

-- in the database below, the row of a link to this path is a STRING key with the link's text and item size
pub record HoldsLinkText (target : List (List ℕ)) (r : Row) : Type 0 where
  pub held : HeldValue
  pub value : r.value ≡ Some held
  pub of_type : held.tid ≡ tid.Text
  pub link : IsLink (typed tid.Link held)
  pub goes : target_of r ≡ target

-- a row that has the number of a link has its text
abbrev pub IsRight : List Link → Row → Type 0
IsRight links r = IfSome (link_numbered links r.number) (λ (l : Link). HoldsLinkText l.target r)

-- the links are those of some rows of a database that keeps none
pub record AreLinks (links : List Link) (s : Rows) : Type 0 where
  pub plain : s.links ≡ false
  pub database : IsDatabase s
  pub order : LinksRise 1 links s.next
  pub right : All (IsRight links) s.rows

-- the links where this row is one to this path, too, or in place of another
abbrev pub with_link : List Link → (row : ℕ) → (target : List (List ℕ)) → List Link
with_link [] row target = record { row = row; target = target } ∷ []
with_link (l ∷ ls) row target = if l.row == row then record { row = row; target = target } ∷ ls else l ∷ with_link ls row target
