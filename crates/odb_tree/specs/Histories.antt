-- Histories of a database: its calls with their replies, each with the number of its caller, in order.
use Rattle.std.specs.Prelude.{◌≡◌, ℕ, Bool, true, false, List, [], ◌∷◌, ⊤}
use Rattle.odb_tree.specs.declared.entry.DatabaseEntry.{DatabaseEntry}
use Rattle.odb_tree.specs.declared.entry.DatabaseEntry.TheVariants.{Create, SetAll, Delete, Resize}
use Rattle.odb_tree.specs.Rows.{Rows}
use Rattle.odb_tree.specs.Calls.{IsRowsReply, rows_after}
use Rattle.odb_tree.specs.Databases.{IsSoundCall}

-- the rows after all these calls
abbrev pub rows_replay : Rows → List (ℕ × DatabaseEntry) → Rows
rows_replay s [] = s
rows_replay s (e ∷ es) = rows_replay (rows_after s e.1) es

-- the calls that may make, remove or resize a row
abbrev pub shapes_rows : DatabaseEntry → Bool
shapes_rows (Create p kind reply) = true
shapes_rows (SetAll p v reply) = true
shapes_rows (Delete p reply) = true
shapes_rows (Resize p len reply) = true
shapes_rows entry = false

-- the main thread alone, caller 0, makes them
abbrev pub IsCaller : (caller : ℕ) → DatabaseEntry → Type 0
IsCaller caller entry = shapes_rows entry ≡ true → caller ≡ 0

-- a call that its caller may make, with arguments as their types have them, and with the reply that the rows give
pub record IsLegalCall (s : Rows) (caller : ℕ) (entry : DatabaseEntry) : Type 0 where
  pub may : IsCaller caller entry
  pub sound : IsSoundCall entry
  pub reply : IsRowsReply s entry

-- each call is legal at its point
abbrev pub IsLegalRows : Rows → List (ℕ × DatabaseEntry) → Type 0
IsLegalRows s [] = ⊤
IsLegalRows s (e ∷ es) = IsLegalCall s e.0 e.1 × IsLegalRows (rows_after s e.1) es
