use Rattle.odb_tree.proofs.WalkLaws.{walk_new_key}
use Rattle.odb_tree.proofs.laws.new_key_behind_keys.Goals as goal

pub returns : goal.returns
returns c = walk_new_key
