use Rattle.odb_text.proofs.Sizes.{dump_small}
use Rattle.odb_text.proofs.laws.dump_is_small.Goals as goal

pub returns : goal.returns
returns c = dump_small
