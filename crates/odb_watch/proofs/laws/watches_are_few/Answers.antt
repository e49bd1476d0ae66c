use Rattle.odb_watch.proofs.Few.{watches_are_few}
use Rattle.odb_watch.proofs.laws.watches_are_few.Goals as goal

pub returns : goal.returns
returns c = watches_are_few
