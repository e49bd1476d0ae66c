use Rattle.odb_tree.proofs.EachRow.{short_rows}
use Rattle.odb_tree.proofs.Listed.{in_directory}
use Rattle.odb_tree.proofs.laws.walk_of_directory.Goals as goal

pub returns : goal.returns
returns c = λ s p h there. in_directory s p h.tree (short_rows s.links s.rows h.rows) there
