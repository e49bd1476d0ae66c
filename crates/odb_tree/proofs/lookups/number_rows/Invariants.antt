use Rattle.odb_tree.proofs.Along.{IsNumbered}
use Rattle.odb_tree.proofs.lookups.number_rows.Given as goal

abbrev pub invariant-loop-i : goal.invariant-loop-i
invariant-loop-i l = IsNumbered l.rows l.names l.i l.initial.numbers l.numbers
