use Rattle.odb_tree.proofs.Along.{IsCounted}
use Rattle.odb_tree.proofs.new_rows.count_missing.Given as goal

abbrev pub invariant-loop-i : goal.invariant-loop-i
invariant-loop-i l = IsCounted l.rows l.names l.i l.count
