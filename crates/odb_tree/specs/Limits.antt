-- The limits of the database.
use Rattle.std.specs.Prelude.{ℕ, ◌^◌, ◌≤◌, nat_lt, ◌||◌, ◌==◌, if◌then◌else◌, List, [], ◌∷◌, length, Option, Some, None}
use Rattle.std.specs.Option.{option_or, option_map}
use Rattle.odb_value.specs.declared.items.Item.{Item}
use Rattle.odb_value.specs.declared.items.Item.TheVariants.{Text}
use Rattle.odb_value.specs.ItemTexts.{text_limit}
use Rattle.odb_value.specs.Values.{items_limit}
use Rattle.odb_tree.specs.declared.refusals.OdbRefusal.{OdbRefusal}
use Rattle.odb_tree.specs.declared.refusals.OdbRefusal.TheVariants.{Limit}
use Rattle.odb_tree.specs.declared.refusals.What.{What}
use Rattle.odb_tree.specs.declared.refusals.What.TheVariants.{Keys, Items, Size, Total, Rows as RowNumbers}
use Rattle.odb_tree.specs.Rows.{Rows, total_of}

-- the most rows
abbrev pub rows_limit : ℕ
rows_limit = 65536

-- the most bytes of all values
abbrev pub total_limit : ℕ
total_limit = 4194304

-- a key has some items, and not too many
abbrev pub len_fault : ℕ → Option What
len_fault len = if (len == 0) || nat_lt items_limit len then Some Items else None

-- a text is not too long
abbrev pub text_fault : Item → Option What
text_fault (Text bytes) = if nat_lt text_limit (length bytes) then Some Size else None
text_fault item = None

-- none of these texts is
abbrev pub texts_fault : List Item → Option What
texts_fault [] = None
texts_fault (item ∷ items) = option_or (text_fault item) (texts_fault items)

abbrev pub number_fault : (next : ℕ) → Option What
number_fault next = if nat_lt (2 ^ 32) next then Some RowNumbers else None

abbrev pub total_fault : (total next : ℕ) → Option What
total_fault total next = if nat_lt total_limit total then Some Total else number_fault next

-- The first limit that is passed, with so many rows, so many bytes of all values and this next number; `own` is what
-- is wrong with the items themselves.
abbrev pub passed : (own : Option What) → (count total next : ℕ) → Option What
passed own count total next = if nat_lt rows_limit count then Some Keys else option_or own (total_fault total next)

-- a call that would leave these rows is refused where a limit would be passed
abbrev pub limit_fault : (own : Option What) → (after : Rows) → Option OdbRefusal
limit_fault own after = option_map Limit (passed own (length after.rows) (total_of after.rows) after.next)

-- no limit is passed
pub record IsWithin (s : Rows) : Type 0 where
  pub rows : length s.rows ≤ rows_limit
  pub total : total_of s.rows ≤ total_limit
  pub next : s.next ≤ 2 ^ 32
