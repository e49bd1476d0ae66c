-- Where a link may be written, and what of it is refused.
use Rattle.std.specs.Prelude.{◌≡◌, ◌≢◌, ℕ, ◌+◌, ◌<◌, ◌≤◌, Bool, true, false, List, [], ◌∷◌, length, Option, Some, None, ◌⊎◌}
use Rattle.daq_types.specs.declared.types.Tid.TheVariants as tid
use Rattle.odb_value.specs.declared.items.Item.TheVariants.{Text}
use Rattle.odb_value.specs.ItemTexts.{text_limit}
use Rattle.odb_value.specs.PathText.{path_text}
use Rattle.odb_value.specs.Values.{HeldValue}
use Rattle.odb_tree.specs.declared.rows.Row.{Row}
use Rattle.odb_tree.specs.declared.refusals.OdbRefusal.{OdbRefusal}
use Rattle.odb_tree.specs.declared.refusals.OdbRefusal.TheVariants.{Limit}
use Rattle.odb_tree.specs.declared.refusals.What.TheVariants.{Items, Size}
use Rattle.odb_tree.specs.Rows.{Rows, row_at}
use Rattle.odb_links.specs.declared.links.Link.{Link}
use Rattle.odb_links.specs.declared.making.Standing.{Standing}
use Rattle.odb_links.specs.declared.making.Standing.TheVariants.{Nothing, Linked, Other}
use Rattle.odb_links.specs.Seen.{is_linked}

-- a row at the path, which is a link's or not
pub record RowAt (links : List Link) (s : Rows) (p : List (List ℕ)) (linked : Bool) : Type 0 where
  pub row : Row
  pub there : row_at s.rows p ≡ Some row
  pub is : is_linked links row.number ≡ linked

-- what stands at a path: nothing, a link, or anything else, the root too
abbrev pub StandsThere : List Link → Rows → List (List ℕ) → Standing → Type 0
StandsThere links s p Nothing = (p ≢ []) × (row_at s.rows p ≡ None)
StandsThere links s p Linked = RowAt links s p true
StandsThere links s p Other = (p ≡ []) ⊎ RowAt links s p false

-- nothing that stands at the path is a link
abbrev pub IsFreeOfLinks : List Link → Rows → List (List ℕ) → Type 0
IsFreeOfLinks links s p = (r : Row) → row_at s.rows p ≡ Some r → is_linked links r.number ≡ false

-- whether a link stands at the path
abbrev pub IsLinkAt : List Link → Rows → List (List ℕ) → Bool → Type 0
IsLinkAt links s p true = RowAt links s p true
IsLinkAt links s p false = IsFreeOfLinks links s p

-- nothing stands at the path, or a link
abbrev pub IsForLinks : List Link → Rows → List (List ℕ) → Type 0
IsForLinks links s p = (r : Row) → row_at s.rows p ≡ Some r → is_linked links r.number ≡ true

-- of a text that is too long the size is refused where its items would be
abbrev pub as_size : OdbRefusal → OdbRefusal
as_size (Limit Items) = Limit Size
as_size refusal = refusal

-- the value of a STRING key with this one text, as long as the text takes it
abbrev pub text_held : List ℕ → HeldValue
text_held text = record { tid = tid.Text; size = length text + 1; items = Text text ∷ [] }

-- the text of this path as such a value, where it is not too long
abbrev pub IsTextTo : List (List ℕ) → Option HeldValue → Type 0
IsTextTo target None = text_limit < length (path_text target)
IsTextTo target (Some v) = (length (path_text target) ≤ text_limit) × (v ≡ text_held (path_text target))

-- this is the value's one text
abbrev pub IsTextIn : HeldValue → Option (List ℕ) → Type 0
IsTextIn v None = ⊥
IsTextIn v (Some text) = v.items ≡ Text text ∷ []
