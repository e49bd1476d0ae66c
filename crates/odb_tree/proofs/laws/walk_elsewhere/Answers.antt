use Rattle.odb_tree.proofs.WalkLaws.{walk_elsewhere}
use Rattle.odb_tree.proofs.laws.walk_elsewhere.Goals as goal

pub returns : goal.returns
returns c = walk_elsewhere
