-- How a list of rows keeps the database.
use Rattle.odb_tree.specs.Rows.{Rows, no_rows}
use Rattle.odb_tree.specs.declared.plain.PlainTree.TheInside.{Inside}

abbrev pub plain_rows : Inside → Rows
plain_rows t = record no_rows { rows = t.rows.items; next = t.next }
