-- Notes of several items of one row.
use Rattle.std.specs.Prelude.{ℕ, zero, suc, ◌+◌}
use Rattle.odb_tree.specs.declared.notes.Watch.{Watch}
use Rattle.odb_tree.specs.Noting.{with_note}

-- a note of each of so many items
abbrev pub with_notes : Watch → (row first count : ℕ) → Watch
with_notes k row first zero = k
with_notes k row first (suc count) = with_notes (with_note k (record { row = row; index = first })) row (first + 1) count
