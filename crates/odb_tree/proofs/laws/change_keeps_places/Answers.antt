use Rattle.odb_tree.proofs.WalkLaws.{walk_changed}
use Rattle.odb_tree.proofs.laws.change_keeps_places.Goals as goal

pub returns : goal.returns
returns c = walk_changed
