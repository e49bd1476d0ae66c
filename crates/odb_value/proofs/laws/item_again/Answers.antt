use Rattle.odb_value.proofs.ReadAgain.{item_again}
use Rattle.odb_value.proofs.laws.item_again.Goals as goal

pub returns : goal.returns
returns c = item_again
