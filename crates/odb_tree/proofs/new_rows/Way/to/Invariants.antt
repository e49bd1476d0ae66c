use Rattle.odb_tree.proofs.Along.{IsGone}
use Rattle.odb_tree.proofs.new_rows.Way.to.Given as goal

abbrev pub invariant-loop-i : goal.invariant-loop-i
invariant-loop-i l = IsGone l.rows l.next l.names l.i l.way
