use Rattle.std.proofs.Common.{◌≡◌, take, sum_by}
use Rattle.odb_tree.specs.Rows.{bytes_of_row}
use Rattle.odb_tree.proofs.limits.total.Given as goal

abbrev pub invariant-loop-row : goal.invariant-loop-row
invariant-loop-row l = l.total ≡ sum_by bytes_of_row (take l.row-index l.rows)
