use Rattle.odb_tree.proofs.WalkLaws.{walk_outside}
use Rattle.odb_tree.proofs.laws.removal_keeps_places.Goals as goal

pub returns : goal.returns
returns c = walk_outside
