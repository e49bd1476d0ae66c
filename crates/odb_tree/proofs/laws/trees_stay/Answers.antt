use Rattle.odb_tree.proofs.Kept.{tree_after, tree_replayed, tree_begins}
use Rattle.odb_tree.proofs.laws.trees_stay.Goals as goal

pub returns-clause-begins : goal.returns-clause-begins
returns-clause-begins c = tree_begins

pub returns-clause-after : goal.returns-clause-after
returns-clause-after c = tree_after

pub returns-clause-stays : goal.returns-clause-stays
returns-clause-stays c = tree_replayed
