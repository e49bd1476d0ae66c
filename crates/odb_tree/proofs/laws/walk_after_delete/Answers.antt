use Rattle.odb_tree.proofs.Changed.{walk_without}
use Rattle.odb_tree.proofs.laws.walk_after_delete.Goals as goal

pub returns : goal.returns
returns c = walk_without
