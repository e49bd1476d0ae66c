-- The rows with which the database of a session begins.
use Rattle.std.specs.Prelude.{true}
use Rattle.odb_tree.specs.Rows.{Rows}
use Rattle.odb_runinfo.specs.RunKeys.{opened_rows}

-- a session's database has the run's parameters before its first call, and keeps links
abbrev pub session_rows : Rows
session_rows = opened_rows true
