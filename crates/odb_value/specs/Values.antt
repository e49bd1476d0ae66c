-- The values of the online database.
use Rattle.std.specs.Prelude.{◌≡◌, ℕ, ◌<◌, ◌≤◌, List, length, All}
use Rattle.daq_types.specs.declared.types.Tid.{Tid}
use Rattle.daq_types.specs.declared.types.Tid.TheVariants as tid
use Rattle.daq_types.specs.Tids.{tid_size}
use Rattle.odb_value.specs.declared.items.Item.{Item}
use Rattle.odb_value.specs.declared.items.Item.TheVariants.{Text}
use Rattle.odb_value.specs.Items.{IsItem}

-- what a value holds: its type, its item size, and its items
pub record HeldValue : Type 0 where
  pub tid : Tid
  pub size : ℕ
  pub items : List Item

-- the longest item size of a STRING
abbrev pub size_limit : ℕ
size_limit = 1024

-- an item size of this type: the type's own, or for a STRING one up to the limit
abbrev pub IsSizeOf : Tid → ℕ → Type 0
IsSizeOf tid.Text size = size ≤ size_limit
IsSizeOf type size = size ≡ tid_size type

-- a text is shorter than the item size
abbrev pub IsShorter : ℕ → Item → Type 0
IsShorter size (Text bytes) = length bytes < size
IsShorter size item = Unit {0}

-- the most items of a value
abbrev pub items_limit : ℕ
items_limit = 65536

-- a value: 1 to 65,536 items of its type, each text shorter than the item size
pub record IsValue (v : HeldValue) : Type 0 where
  pub some : 1 ≤ length v.items
  pub many : length v.items ≤ items_limit
  pub of_type : All (IsItem v.tid) v.items
  pub size : IsSizeOf v.tid v.size
  pub shorter : All (IsShorter v.size) v.items
