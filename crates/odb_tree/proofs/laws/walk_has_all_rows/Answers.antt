use Rattle.odb_tree.proofs.EachRow.{short_rows}
use Rattle.odb_tree.proofs.Whole.{has_rows}
use Rattle.odb_tree.proofs.Short.{one_in_walk}
use Rattle.odb_tree.proofs.laws.walk_has_all_rows.Goals as goal

pub returns-clause-rows : goal.returns-clause-rows
returns-clause-rows c = λ s h. has_rows s h.tree (short_rows s.links s.rows h.rows)

pub returns-clause-one : goal.returns-clause-one
returns-clause-one c = λ s p h. one_in_walk s p h.tree (short_rows s.links s.rows h.rows)
