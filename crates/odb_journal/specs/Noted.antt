-- A database with the journal of its calls.
use Rattle.std.specs.Prelude.{◌≡◌, ℕ, ◌+◌, ◌≤◌, List, [], ◌∷◌, ◌++◌}
use Rattle.odb_tree.specs.declared.entry.DatabaseEntry.{DatabaseEntry}
use Rattle.odb_tree.specs.Rows.{Rows}
use Rattle.odb_tree.specs.Calls.{IsRowsReply, rows_after}
use Rattle.odb_tree.specs.Databases.{IsDatabase}
use Rattle.odb_tree.specs.Histories.{IsLegalRows, rows_replay}

-- the rows at first, and the rows now; the calls since, each with the number of its caller; and room for so many calls
-- more in the journal
pub record Noted : Type 0 where
  pub start : Rows
  pub rows : Rows
  pub history : List (ℕ × DatabaseEntry)
  pub room : ℕ

-- at first the rows were those of a database, and the history is legal and led to the rows now
pub record IsNoted (n : Noted) : Type 0 where
  pub database : IsDatabase n.start
  pub legal : IsLegalRows n.start n.history
  pub replayed : n.rows ≡ rows_replay n.start n.history

-- one call more, by this caller
pub record NotesCall (p q : Noted) (caller : ℕ) (entry : DatabaseEntry) : Type 0 where
  pub from : IsNoted p
  pub reply : IsRowsReply p.rows entry
  pub rows : q.rows ≡ rows_after p.rows entry
  pub history : q.history ≡ p.history ++ (caller, entry) ∷ []
  pub start : q.start ≡ p.start
  pub room : p.room ≤ q.room + 1

-- the same rows and calls, and as much room or more
pub record KeepsCalls (p q : Noted) : Type 0 where
  pub start : q.start ≡ p.start
  pub rows : q.rows ≡ p.rows
  pub history : q.history ≡ p.history
  pub room : p.room ≤ q.room
