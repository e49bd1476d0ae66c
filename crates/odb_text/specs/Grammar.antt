-- The grammar of a database text: lines, and what they ask for.
use Rattle.std.specs.Prelude.{◌≡◌, ℕ, ◌+◌, ◌<◌, Bool, true, false, not, max, nat_lt, if◌then◌else◌, List, [], ◌∷◌, ◌++◌, length, map, ◌⊎◌}
use Rattle.std.specs.List.{AllByRecursion}
use Rattle.daq_types.specs.declared.types.Tid.{Tid}
use Rattle.daq_types.specs.declared.types.Tid.TheVariants as tid
use Rattle.daq_types.specs.Tids.{tid_size}
use Rattle.odb_value.specs.Paths.{depth_limit}
use Rattle.odb_value.specs.declared.items.Item.{Item}
use Rattle.odb_value.specs.declared.items.Item.TheVariants.{Text}
use Rattle.odb_value.specs.Items.{is_kept}
use Rattle.odb_value.specs.Values.{HeldValue, size_limit}
use Rattle.odb_value.specs.ValueChanges.{size_with_item}
use Rattle.odb_text.specs.LineForms.{IsBracketed, IsPassed, IsDirLine, IsKeyLine, IsSingle, IsArray}
use Rattle.odb_text.specs.ItemLines.{is_string, IsItemLine, IsItemAlone, IsLinkAlone}
use Rattle.odb_text.specs.declared.acts.Act.{Act}
use Rattle.odb_text.specs.declared.acts.Act.TheVariants.{Make, Write, Skip}
use Rattle.odb_text.specs.TextSteps.{TextStep, dir_after}

-- Items of a key, each with the size that is given for it.

pub record SizedItem : Type 0 where
  pub size : ℕ
  pub item : Item

-- the lines of items of an array, of which the first has this index
abbrev pub AreItemLines : Tid → (index : ℕ) → List (List ℕ) → List SizedItem → Type 0
AreItemLines type index [] [] = Unit {0}
AreItemLines type index [] (x ∷ xs) = ⊥
AreItemLines type index (line ∷ lines) [] = ⊥
AreItemLines type index (line ∷ lines) (x ∷ xs) = IsItemLine type index line x.size x.item × AreItemLines type (index + 1) lines xs

-- the greatest of the sizes given, and of the lengths of the texts plus 1
abbrev pub size_given : List SizedItem → ℕ
size_given [] = 0
size_given (x ∷ xs) = max (size_with_item x.size x.item) (size_given xs)

-- the item size: that of the type, or for a STRING this one
abbrev pub size_for : (string : Bool) → Tid → (size : ℕ) → ℕ
size_for true type size = size
size_for false type size = tid_size type

abbrev pub held_with : Tid → List SizedItem → HeldValue
held_with type xs = record { tid = type; size = size_for (is_string type) type (size_given xs); items = map (λ (x : SizedItem). x.item) xs }

-- Keys.

-- the line of a key in a directory, which has fewer than 32 names
pub record IsKeyIn (dir : List (List ℕ)) (line name : List ℕ) (type : Tid) (rest : List ℕ) : Type 0 where
  pub key : IsKeyLine line name type rest
  pub deep : length dir < depth_limit

-- a key of one item, of a type of which the database keeps values
pub record IsSingleKey (dir : List (List ℕ)) (line name : List ℕ) (type : Tid) (x : SizedItem) : Type 0 where
  pub rest : List ℕ
  pub key : IsKeyIn dir line name type rest
  pub kept : is_kept type ≡ true
  pub text : List ℕ
  pub single : IsSingle rest text
  pub item : IsItemAlone type text x.size x.item

-- the line of an array of n items, of a type of which the database keeps values
pub record IsArrayHead (dir : List (List ℕ)) (line name : List ℕ) (type : Tid) (n : ℕ) : Type 0 where
  pub rest : List ℕ
  pub key : IsKeyIn dir line name type rest
  pub kept : is_kept type ≡ true
  pub array : IsArray rest n

-- one item in the line of the name, or an array with a line for each
abbrev pub IsKeptKey : (dir lines : List (List ℕ)) → (name : List ℕ) → Tid → List SizedItem → Type 0
IsKeptKey dir [] name type xs = ⊥
IsKeptKey dir (line ∷ more) name type xs =
    ((x : SizedItem) × IsSingleKey dir line name type x × (more ≡ []) × (xs ≡ x ∷ []))
    ⊎ ((n : ℕ) × IsArrayHead dir line name type n × (length xs ≡ n) × AreItemLines type 0 more xs)

-- Links, where the database keeps them.

-- the line of a link, with one text and a size that is given for it
pub record IsLinkKey (dir : List (List ℕ)) (line name : List ℕ) (size : ℕ) (link : List ℕ) : Type 0 where
  pub rest : List ℕ
  pub key : IsKeyIn dir line name tid.Link rest
  pub text : List ℕ
  pub single : IsSingle rest text
  pub alone : IsLinkAlone text size link

-- the item size: the length of the text plus 1, whatever size up to the limit is given; one above stays, and is refused
abbrev pub link_size : (given : ℕ) → (link : List ℕ) → ℕ
link_size given link = if nat_lt size_limit given then given else length link + 1

abbrev pub held_link : (given : ℕ) → (link : List ℕ) → HeldValue
held_link given link = record { tid = tid.Link; size = link_size given link; items = Text link ∷ [] }

-- A key that is written: of a type of which each database keeps values, or a link where links are kept.
abbrev pub IsWrittenKey : (links : Bool) → (dir lines : List (List ℕ)) → (name : List ℕ) → HeldValue → Type 0
IsWrittenKey links dir lines name v =
    ((type : Tid) × (xs : List SizedItem) × IsKeptKey dir lines name type xs × (v ≡ held_with type xs))
    ⊎ ((line : List ℕ) × (size : ℕ) × (link : List ℕ) × (links ≡ true) × (lines ≡ line ∷ []) × IsLinkKey dir line name size link × (v ≡ held_link size link))

-- Keys that are skipped, of three types, and of type LINK where no links are kept.

abbrev pub is_skipped : (links : Bool) → Tid → Bool
is_skipped links tid.Float = true
is_skipped links tid.Double = true
is_skipped links tid.BitField = true
is_skipped links tid.Link = not links
is_skipped links type = false

pub record IsSkippedHead (links : Bool) (dir : List (List ℕ)) (line : List ℕ) (rest : List ℕ) : Type 0 where
  pub name : List ℕ
  pub type : Tid
  pub key : IsKeyIn dir line name type rest
  pub skipped : is_skipped links type ≡ true

-- the line begins with a number in brackets
pub record BeginsBracketed (line : List ℕ) : Type 0 where
  pub digits : List ℕ
  pub rest : List ℕ
  pub bracketed : IsBracketed line digits rest

-- anything behind the colon, or an array with a line for each item
abbrev pub IsSkippedKey : (links : Bool) → (dir lines : List (List ℕ)) → (items : ℕ) → Type 0
IsSkippedKey links dir [] items = ⊥
IsSkippedKey links dir (line ∷ more) items =
    ((rest : List ℕ) × (text : List ℕ) × IsSkippedHead links dir line rest × IsSingle rest text × (more ≡ []) × (items ≡ 0))
    ⊎ ((rest : List ℕ) × IsSkippedHead links dir line rest × IsArray rest items × (length more ≡ items) × AllByRecursion BeginsBracketed more)

-- Texts, for a database that keeps links or none.

-- The lines ask for this, in a directory.
abbrev pub SpellsAct : (links : Bool) → (dir lines : List (List ℕ)) → Act → Type 0
SpellsAct links dir lines (Make p) = (line : List ℕ) × (lines ≡ line ∷ []) × IsDirLine line p
SpellsAct links dir lines (Write p v) = (name : List ℕ) × IsWrittenKey links dir lines name v × (p ≡ dir ++ name ∷ [])
SpellsAct links dir lines (Skip items) = IsSkippedKey links dir lines items

abbrev pub ArePassed : List (List ℕ) → Type 0
ArePassed lines = AllByRecursion IsPassed lines

-- The lines of each step in turn, and before, between and behind them lines that are passed over. The first line has this
-- number, and the keys are in this directory at first.
abbrev pub SpellsSteps : (links : Bool) → (number : ℕ) → (dir lines : List (List ℕ)) → List TextStep → Type 0
SpellsSteps links number dir lines [] = ArePassed lines
SpellsSteps links number dir lines (step ∷ steps) =
    (passed : List (List ℕ)) × (own : List (List ℕ)) × (rest : List (List ℕ)) × (lines ≡ passed ++ (own ++ rest)) × ArePassed passed × (step.line ≡ number + length passed)
    × SpellsAct links dir own step.act × SpellsSteps links (number + length passed + length own) (dir_after dir step.act) rest steps
