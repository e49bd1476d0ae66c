-- The values of links: keys of type LINK, whose one text is that of a path.
use Rattle.std.specs.Prelude.{◌≡◌, ℕ, ◌+◌, ◌≤◌, Bool, true, false, List, [], ◌∷◌, length, Ok, ◌⊎◌}
use Rattle.daq_types.specs.declared.types.Tid.{Tid}
use Rattle.daq_types.specs.declared.types.Tid.TheVariants as tid
use Rattle.odb_value.specs.Paths.{IsPath}
use Rattle.odb_value.specs.PathText.{path_reply, path_text}
use Rattle.odb_value.specs.declared.items.Item.TheVariants.{Text}
use Rattle.odb_value.specs.ItemTexts.{text_limit}
use Rattle.odb_value.specs.Values.{HeldValue, IsValue}

-- the type of links
abbrev pub is_link_type : Tid → Bool
is_link_type tid.Link = true
is_link_type type = false

-- the value of a link to this path: one text, with its length plus 1 as the item size
abbrev pub link_to : List (List ℕ) → HeldValue
link_to target = record { tid = tid.Link; size = length (path_text target) + 1; items = Text (path_text target) ∷ [] }

-- a link's value: one text that is read as a path and is not too long, and its length plus 1 as the item size
pub record IsLink (v : HeldValue) : Type 0 where
  pub of_type : v.tid ≡ tid.Link
  pub text : List ℕ
  pub one : v.items ≡ Text text ∷ []
  pub target : List (List ℕ)
  pub path : IsPath target
  pub reads : path_reply text ≡ Ok target
  pub short : length text ≤ text_limit
  pub size : v.size ≡ length text + 1

-- what a key of any database holds
abbrev pub IsValueOrLink : HeldValue → Type 0
IsValueOrLink v = IsValue v ⊎ IsLink v
