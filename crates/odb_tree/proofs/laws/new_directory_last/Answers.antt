use Rattle.odb_tree.proofs.WalkLaws.{walk_new_dir}
use Rattle.odb_tree.proofs.laws.new_directory_last.Goals as goal

pub returns : goal.returns
returns c = walk_new_dir
