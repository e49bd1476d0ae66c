-- What is read at a time: the lines of one step, or the fault at which they break off.
use Rattle.std.specs.Prelude.{◌≡◌, Bool, true, ℕ, ◌+◌, ◌<◌, ◌≤◌, max, List, [], ◌∷◌, ◌++◌, length, map, All, Option, Some, None}
use Rattle.std.specs.List.{AllByRecursion}
use Rattle.daq_types.specs.declared.types.Tid.{Tid}
use Rattle.daq_text.specs.Numbers.{up_to}
use Rattle.odb_value.specs.declared.items.Item.{Item}
use Rattle.odb_value.specs.Items.{IsItem}
use Rattle.odb_value.specs.Values.{size_limit, IsShorter}
use Rattle.odb_value.specs.ValueChanges.{size_with_item}
use Rattle.odb_tree.specs.declared.refusals.OdbRefusal.{OdbRefusal}
use Rattle.odb_tree.specs.declared.refusals.OdbRefusal.TheVariants.{Limit}
use Rattle.odb_tree.specs.declared.refusals.What.TheVariants.{Size}
use Rattle.odb_tree.specs.Rows.{Rows}
use Rattle.odb_text.specs.ItemLines.{is_string, IsItemLine, IsItemAlone}
use Rattle.odb_text.specs.declared.acts.Act.{Act}
use Rattle.odb_text.specs.declared.links.ReadLink.{ReadLink}
use Rattle.odb_text.specs.declared.faults.BlockFault.{BlockFault}
use Rattle.odb_text.specs.declared.faults.BlockFault.TheVariants.{Bad, Refused, NoMemory}
use Rattle.odb_text.specs.declared.faults.ItemsFault.{ItemsFault}
use Rattle.odb_text.specs.declared.faults.ItemsFault.TheVariants.{BadItem, WideItem, NoMemory as no_memory}
use Rattle.odb_text.specs.TextSteps.{own_limit}
use Rattle.odb_text.specs.Grammar.{SizedItem, AreItemLines, size_given, BeginsBracketed, IsLinkKey, SpellsAct}
use Rattle.odb_text.specs.TextFaults.{NextIsNot, NextIs, IsSomeItemLine, LeavesGrammar, IsRefused, BeginsStep}

-- The first lines of the text are those of this step, which no limit of its own refuses, and the rest follows them.
pub record IsBlock (links : Bool) (dir lines : List (List ℕ)) (act : Act) (rest : List (List ℕ)) (count : ℕ) : Type 0 where
  pub own : List (List ℕ)
  pub whole : lines ≡ own ++ rest
  pub counted : count ≡ length own
  pub spells : SpellsAct links dir own act
  pub within : own_limit act ≡ None

-- The lines leave the grammar at the one with this place.
pub record IsBadAt (links : Bool) (dir lines : List (List ℕ)) (at : ℕ) : Type 0 where
  pub opened : List (List ℕ)
  pub rest : List (List ℕ)
  pub whole : lines ≡ opened ++ rest
  pub place : at ≡ length opened
  pub leaves : LeavesGrammar links dir opened rest

-- The first lines are refused, whatever the rows are.
pub record IsRefusedAlways (links : Bool) (dir lines : List (List ℕ)) (why : OdbRefusal) : Type 0 where
  pub opened : List (List ℕ)
  pub rest : List (List ℕ)
  pub whole : lines ≡ opened ++ rest
  pub refused : (s : Rows) → IsRefused links s dir opened why

-- The first lines are in the grammar, as far as they were read.
pub record IsBegunAt (links : Bool) (dir lines : List (List ℕ)) : Type 0 where
  pub opened : List (List ℕ)
  pub rest : List (List ℕ)
  pub whole : lines ≡ opened ++ rest
  pub begins : BeginsStep links dir opened

abbrev pub IsBlockFault : (links : Bool) → (dir lines : List (List ℕ)) → BlockFault → Type 0
IsBlockFault links dir lines (Bad at) = IsBadAt links dir lines at
IsBlockFault links dir lines (Refused why) = IsRefusedAlways links dir lines why
IsBlockFault links dir lines NoMemory = IsBegunAt links dir lines

-- the fault of a key whose items are at fault
abbrev pub block_fault : ItemsFault → BlockFault
block_fault (BadItem at) = Bad at
block_fault WideItem = Refused (Limit Size)
block_fault no_memory = NoMemory

-- Items of an array, read so far: their lines, and the rest.
pub record AreRead (type : Tid) (lines : List (List ℕ)) (count : ℕ) (items : List Item) (size : ℕ) (rest : List (List ℕ)) : Type 0 where
  pub own : List (List ℕ)
  pub xs : List SizedItem
  pub whole : lines ≡ own ++ rest
  pub spell : AreItemLines type 0 own xs
  pub many : length own ≡ count
  pub as_many : length xs ≡ count
  pub items_are : items ≡ map (λ (x : SizedItem). x.item) xs
  pub size_is : size ≡ size_given xs
  pub within : size ≤ size_limit
  pub sound : All (IsItem type) items

-- An item is taken, for which a size was given; None where it is too great.
pub record TakesItem (type : Tid) (given : Option ℕ) (item : Item) (items : List Item) (size : ℕ) (more : List Item) (greater : ℕ) : Type 0 where
  pub width : ℕ
  pub is_given : given ≡ Some width
  pub one_more : more ≡ items ++ item ∷ []
  pub raises : greater ≡ max size (size_with_item width item)
  pub sound : IsItem type item

abbrev pub IsTakeFault : (given : Option ℕ) → ItemsFault → Type 0
IsTakeFault given (BadItem at) = ⊥
IsTakeFault given WideItem = given ≡ None
IsTakeFault given no_memory = Unit {0}

-- One item more.
pub record ReadsItem (type : Tid) (index : ℕ) (lines : List (List ℕ)) (items : List Item) (size : ℕ) (rest : List (List ℕ)) (more : List Item) (greater : ℕ) : Type 0 where
  pub line : List ℕ
  pub given : ℕ
  pub item : Item
  pub first : lines ≡ line ∷ rest
  pub spells : IsItemLine type index line given item
  pub one_more : more ≡ items ++ item ∷ []
  pub raises : greater ≡ max size (size_with_item given item)
  pub within : given ≤ size_limit
  pub short : IsShorter size_limit item
  pub sound : IsItem type item

-- the next item has too great a size
pub record IsWideLine (type : Tid) (index : ℕ) (lines : List (List ℕ)) : Type 0 where
  pub line : List ℕ
  pub rest : List (List ℕ)
  pub given : ℕ
  pub item : Item
  pub first : lines ≡ line ∷ rest
  pub spells : IsItemLine type index line given item
  pub wide : size_limit < given

-- what is wrong with the next line
abbrev pub IsItemFault : Tid → (index : ℕ) → (lines : List (List ℕ)) → ItemsFault → Type 0
IsItemFault type index lines (BadItem at) = (at ≡ index + 1) × NextIsNot (IsSomeItemLine type index) lines
IsItemFault type index lines WideItem = IsWideLine type index lines
IsItemFault type index lines no_memory = NextIs (IsSomeItemLine type index) lines

-- what is wrong with the first line that is none of an item, or has too great a size
pub record StopsAtItem (type : Tid) (lines : List (List ℕ)) (count : ℕ) (fault : ItemsFault) : Type 0 where
  pub index : ℕ
  pub items : List Item
  pub size : ℕ
  pub rest : List (List ℕ)
  pub read : AreRead type lines index items size rest
  pub inside : index < count
  pub fault_is : IsItemFault type index rest fault

-- Lines of items of an array that is skipped, passed so far.
pub record AreSkipped (lines : List (List ℕ)) (count : ℕ) (rest : List (List ℕ)) : Type 0 where
  pub own : List (List ℕ)
  pub whole : lines ≡ own ++ rest
  pub spell : AllByRecursion BeginsBracketed own
  pub many : length own ≡ count

-- the first line is one of these
pub record SkipsLine (lines rest : List (List ℕ)) : Type 0 where
  pub line : List ℕ
  pub first : lines ≡ line ∷ rest
  pub begins : BeginsBracketed line

-- the line with this place, which is below the count, is none, or there is none
pub record SkipsOnlyTo (lines : List (List ℕ)) (count at : ℕ) : Type 0 where
  pub rest : List (List ℕ)
  pub skipped : AreSkipped lines at rest
  pub inside : at < count
  pub next : NextIsNot BeginsBracketed rest

-- The one item of a key, which stands behind the colon.
pub record IsAloneRead (type : Tid) (text : List ℕ) (items : List Item) (size : ℕ) : Type 0 where
  pub x : SizedItem
  pub spells : IsItemAlone type text x.size x.item
  pub items_are : items ≡ x.item ∷ []
  pub size_is : size ≡ size_given (x ∷ [])
  pub within : size ≤ size_limit
  pub sound : All (IsItem type) items

-- It has too great a size.
pub record IsWideAlone (type : Tid) (text : List ℕ) : Type 0 where
  pub x : SizedItem
  pub spells : IsItemAlone type text x.size x.item
  pub wide : size_limit < x.size
  pub string : is_string type ≡ true

-- some item stands there
abbrev pub IsSomeAlone : Tid → (text : List ℕ) → Type 0
IsSomeAlone type text = (size : ℕ) × (item : Item) × IsItemAlone type text size item

abbrev pub IsAloneFault : Tid → (text : List ℕ) → ItemsFault → Type 0
IsAloneFault type text (BadItem at) = (at ≡ 0) × ((size : ℕ) (item : Item) → IsItemAlone type text size item → ⊥)
IsAloneFault type text WideItem = IsWideAlone type text
IsAloneFault type text no_memory = IsSomeAlone type text

-- The line is that of a link, which was read from it.
pub record ReadsLink (dir : List (List ℕ)) (line name : List ℕ) (read : ReadLink) : Type 0 where
  pub size : ℕ
  pub key : IsLinkKey dir line name size read.text
  pub given : read.size ≡ up_to size_limit size
