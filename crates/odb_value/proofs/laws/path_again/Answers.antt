use Rattle.odb_value.proofs.PathAgain.{path_again}
use Rattle.odb_value.proofs.laws.path_again.Goals as goal

pub returns : goal.returns
returns c = path_again
