-- The lines of items of a key. With each item goes the size that is given for it, 0 where the key is no STRING.
use Rattle.std.specs.Prelude.{◌≡◌, ℕ, Bool, true, false, List, Ok}
use Rattle.std.specs.Fmt.{decimal}
use Rattle.std.specs.Str.Parse.{digits_value}
use Rattle.daq_types.specs.declared.types.Tid.{Tid}
use Rattle.daq_types.specs.declared.types.Tid.TheVariants as tid
use Rattle.odb_value.specs.PathText.{path_reply}
use Rattle.odb_value.specs.declared.items.Item.{Item}
use Rattle.odb_value.specs.declared.items.Item.TheVariants.{Text}
use Rattle.odb_value.specs.ItemTexts.{item_read}
use Rattle.odb_text.specs.LineForms.{behind_blank, IsBracketed}

abbrev pub is_string : Tid → Bool
is_string tid.Text = true
is_string type = false

-- in front of an item of an array stands its index, or for a STRING the size that is given
abbrev pub IsFrontNumber : (string : Bool) → (index : ℕ) → (digits : List ℕ) → (size : ℕ) → Type 0
IsFrontNumber true index digits size = size ≡ digits_value 10 digits
IsFrontNumber false index digits size = (digits ≡ decimal index) × (size ≡ 0)

-- the line of the item with this index: a number in brackets, one blank or none, and the item
pub record IsItemLine (type : Tid) (index : ℕ) (line : List ℕ) (size : ℕ) (item : Item) : Type 0 where
  pub digits : List ℕ
  pub rest : List ℕ
  pub bracketed : IsBracketed line digits rest
  pub number : IsFrontNumber (is_string type) index digits size
  pub spells : item_read type (behind_blank rest) ≡ Ok item

-- the one item of a key, as it stands behind the colon and one blank, where there is one: for a STRING like the line of an
-- item of an array
abbrev pub IsAloneText : (string : Bool) → Tid → (text : List ℕ) → (size : ℕ) → Item → Type 0
IsAloneText true type text size item = IsItemLine type 0 text size item
IsAloneText false type text size item = (item_read type text ≡ Ok item) × (size ≡ 0)

abbrev pub IsItemAlone : Tid → (text : List ℕ) → (size : ℕ) → Item → Type 0
IsItemAlone type text size item = IsAloneText (is_string type) type (behind_blank text) size item

-- a text that is read as a path
abbrev pub IsPathText : List ℕ → Type 0
IsPathText text = (target : List (List ℕ)) × (path_reply text ≡ Ok target)

-- what stands behind the colon of a link: a text as that of a STRING, which is read as a path
pub record IsLinkAlone (text : List ℕ) (size : ℕ) (link : List ℕ) : Type 0 where
  pub item : IsItemAlone tid.Text text size (Text link)
  pub path : IsPathText link
