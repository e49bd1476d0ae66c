-- The lines of a key in a dump of the database.
use Rattle.std.specs.Prelude.{ℕ, ◌+◌, List, [], ◌∷◌, ◌++◌, length, codes}
use Rattle.std.specs.Fmt.{decimal}
use Rattle.daq_types.specs.Tids.{tid_name}
use Rattle.odb_value.specs.declared.items.Item.{Item}
use Rattle.odb_value.specs.declared.items.Item.TheVariants.{Text}
use Rattle.odb_value.specs.ItemTexts.{item_text}
use Rattle.odb_value.specs.Values.{HeldValue}

-- a number in brackets, and what stands behind them
abbrev pub bracketed : ℕ → List ℕ → List ℕ
bracketed n text = codes "[" ++ (decimal n ++ (codes "] " ++ text))

-- the one item of a key: for a STRING its text behind the item size
abbrev pub item_alone : (size : ℕ) → Item → List ℕ
item_alone size (Text bytes) = bracketed size bytes
item_alone size item = item_text item

-- the number in front of an item of an array: its index, or for a STRING the item size
abbrev pub front_number : (size index : ℕ) → Item → ℕ
front_number size index (Text bytes) = size
front_number size index item = index

-- the line of an item of an array
abbrev pub item_line : (size index : ℕ) → Item → List ℕ
item_line size index item = bracketed (front_number size index item) (item_text item ++ 10 ∷ [])

-- the lines of items, of which the first has this index
abbrev pub item_lines : (size index : ℕ) → List Item → List ℕ
item_lines size index [] = []
item_lines size index (item ∷ items) = item_line size index item ++ item_lines size (index + 1) items

-- what stands behind the type: one item in the same line, or the lines of an array
abbrev pub items_text : (size : ℕ) → List Item → List ℕ
items_text size (item ∷ []) = codes " : " ++ (item_alone size item ++ 10 ∷ [])
items_text size items = codes "[" ++ (decimal (length items) ++ (codes "] :" ++ (10 ∷ item_lines size 0 items)))

-- the line or the lines of a key
abbrev pub key_text : (name : List ℕ) → HeldValue → List ℕ
key_text name v = name ++ (codes " = " ++ (tid_name v.tid ++ items_text v.size v.items))
