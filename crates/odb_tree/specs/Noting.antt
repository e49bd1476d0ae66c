-- Changes of a database, and the watches that note them.
use Rattle.std.specs.Prelude.{ℕ, zero, suc, ◌+◌, ◌-◌, ◌^◌, min, nat_lt, if◌then◌else◌, Bool, List, [], ◌∷◌, ◌++◌, length, map, Option, Result, Ok, Err}
use Rattle.std.specs.Option.{option_map}
use Rattle.odb_tree.specs.declared.notes.Note.{Note}
use Rattle.odb_tree.specs.declared.notes.Watch.{Watch}
use Rattle.odb_tree.specs.declared.rows.NewKey.TheVariants.{Dir, Keys, Link}
use Rattle.odb_tree.specs.declared.entry.DatabaseEntry.{DatabaseEntry}
use Rattle.odb_tree.specs.declared.entry.DatabaseEntry.TheVariants.{Create, Set, SetAll, Get, Find, ListDir, Delete, Resize, PathOf}
use Rattle.odb_tree.specs.declared.refusals.OdbRefusal.{OdbRefusal}
use Rattle.odb_tree.specs.Rows.{Rows}
use Rattle.odb_value.specs.Values.{HeldValue}
use Rattle.odb_tree.specs.Calls.{rows_after, after_put, is_row_below}

-- A change: an item of a row was written. It has the row, the index of the item, and the rows just after.
pub record Change : Type 0 where
  pub rows : Rows
  pub row : ℕ
  pub index : ℕ

-- one for each of so many items, of which the first has this index
abbrev pub changes_from : (after : Rows) → (row first count : ℕ) → List Change
changes_from after row first zero = []
changes_from after row first (suc count) = record { rows = after; row = row; index = first } ∷ changes_from after row (first + 1) count

-- the same where the call that wrote them was accepted
abbrev pub changes_for : (after : Rows) → Result ℕ OdbRefusal → (first count : ℕ) → List Change
changes_for after (Ok row) first count = changes_from after row first count
changes_for after (Err refusal) first count = []

-- The changes that a call with this reply makes: the first item of a new key or link, the item that was set, each item
-- of a value that was set whole, and the last item of a key that got another number of items. No other call makes any.
abbrev pub changes_of : Rows → DatabaseEntry → List Change
changes_of s (Create p Dir reply) = []
changes_of s (Create p (Keys type len) reply) = changes_for (rows_after s (Create p (Keys type len) reply)) reply 0 1
changes_of s (Create p (Link target) reply) = changes_for (rows_after s (Create p (Link target) reply)) reply 0 1
changes_of s (Set p index item reply) = changes_for (rows_after s (Set p index item reply)) reply index 1
changes_of s (SetAll p v reply) = changes_for (rows_after s (SetAll p v reply)) reply 0 (length v.items)
changes_of s (Get p reply) = []
changes_of s (Find p reply) = []
changes_of s (ListDir p reply) = []
changes_of s (Delete p reply) = []
changes_of s (Resize p len reply) = changes_for (rows_after s (Resize p len reply)) reply (len - 1) 1
changes_of s (PathOf row reply) = []

-- the changes that `put` with this reply makes: each item of the value
abbrev pub changes_of_put : Rows → List (List ℕ) → HeldValue → Result ℕ OdbRefusal → List Change
changes_of_put s p v reply = changes_for (after_put s p v reply) reply 0 (length v.items)

-- the most notes that a watch keeps
abbrev pub notes_limit : ℕ
notes_limit = 256

-- a count of 64 bits stands still at its end
abbrev pub counted : ℕ → ℕ
counted n = min n (2 ^ 64 - 1)

-- one note more, or one more that is lost
abbrev pub with_note : Watch → Note → Watch
with_note k note =
    if nat_lt (length k.notes) notes_limit then record { row = k.row; notes = k.notes ++ note ∷ []; lost = k.lost }
    else record { row = k.row; notes = k.notes; lost = counted (k.lost + 1) }

abbrev pub note_of : Change → Note
note_of c = record { row = c.row; index = c.index }

-- just after the change its row was the watched one, or lay below that
abbrev pub is_of : (row : ℕ) → Change → Bool
is_of row c = is_row_below c.rows c.row row

abbrev pub with_change : Watch → Change → Watch
with_change k c = if is_of k.row c then with_note k (note_of c) else k

abbrev pub noted_all : Watch → List Change → Watch
noted_all k [] = k
noted_all k (c ∷ cs) = noted_all (with_change k c) cs

-- each watch notes these changes; the watches stand by their numbers, and a number may be free
abbrev pub all_noted : List Change → List (Option Watch) → List (Option Watch)
all_noted cs slots = map (option_map (λ (k : Watch). noted_all k cs)) slots

-- a watched database: its rows, and for each number the watch that has it, if any
pub record Watched : Type 0 where
  pub rows : Rows
  pub slots : List (Option Watch)

-- the watched database after a call with this reply
abbrev pub watched_call : Watched → DatabaseEntry → Watched
watched_call s entry = record { rows = rows_after s.rows entry; slots = all_noted (changes_of s.rows entry) s.slots }
