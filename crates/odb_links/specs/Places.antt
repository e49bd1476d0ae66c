-- Where links stand, and what of them a path meets.
use Rattle.std.specs.Prelude.{◌≡◌, ℕ, ◌<◌, ◌||◌, Bool, if◌then◌else◌, List, [], ◌∷◌, length, drop, slice_index_or, Option, Some, None}
use Rattle.std.specs.Option.{option_or}
use Rattle.odb_tree.specs.Links.{Met, has_names}
use Rattle.odb_links.specs.declared.links.Link.{Link}
use Rattle.odb_links.specs.declared.leading.Hit.{Hit}
use Rattle.odb_links.specs.Seen.{link_numbered}

-- the link with this row stands at this place
pub record LinkStands (links : List Link) (row at : ℕ) : Type 0 where
  pub below : at < length links
  pub row_is : (d : Link) → (slice_index_or links at d).row ≡ row
  pub is : (d : Link) → link_numbered links row ≡ Some (slice_index_or links at d)

-- the row is a link that is followed: one with names behind it, or with `last` any
abbrev pub hit_at : (last : Bool) → (rest : List (List ℕ)) → Option Link → Option Met
hit_at last rest None = None
hit_at last rest (Some l) = if last || has_names rest then Some (record { target = l.target; rest = rest }) else None

-- the first link that is followed, where the rows at the first of the names, the first two and so on have these numbers
abbrev pub hit_among : List Link → (last : Bool) → (numbers : List ℕ) → (names : List (List ℕ)) → Option Met
hit_among links last [] names = None
hit_among links last (n ∷ ns) [] = None
hit_among links last (n ∷ ns) (name ∷ names) = option_or (hit_at last names (link_numbered links n)) (hit_among links last ns names)

-- a link that so many names lead to: where it goes to, and the names behind it
abbrev pub met_by : (names : List (List ℕ)) → Hit → Met
met_by names hit = record { target = hit.target.now; rest = drop hit.depth names }
