-- What it takes to put an item into a value, and to give it more or fewer.
use Rattle.std.specs.Prelude.{◌≡◌, ℕ, ◌<◌, IsTrue, List, length, Some}
use Rattle.odb_tree.specs.Rows.{row_at}
use Rattle.odb_value.specs.declared.items.Item.{Item}
use Rattle.odb_value.specs.Items.{tid_of, is_kept}
use Rattle.odb_value.specs.Values.{HeldValue, IsShorter, size_limit}
use Rattle.odb_tree.specs.declared.rows.Row.{Row}

-- the item fits in the value at the index
pub record CanPut (v : HeldValue) (index : ℕ) (item : Item) : Type 0 where
  pub inside : index < length v.items
  pub of_type : tid_of item ≡ v.tid
  pub short : IsShorter size_limit item

abbrev pub RowCanPut : Row → (index : ℕ) → Item → Type 0
RowCanPut r index item = (v : HeldValue) → r.value ≡ Some v → CanPut v index item

-- the row is no key of a type that the database keeps no values of: a link, say
abbrev pub RowCanResize : Row → Type 0
RowCanResize r = (v : HeldValue) → r.value ≡ Some v → IsTrue (is_kept v.tid)

-- a key with this value stands at the path
pub record IsKeyAt (rows : List Row) (p : List (List ℕ)) (v : HeldValue) : Type 0 where
  pub row : Row
  pub there : row_at rows p ≡ Some row
  pub value : row.value ≡ Some v
