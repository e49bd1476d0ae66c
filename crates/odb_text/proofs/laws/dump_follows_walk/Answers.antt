use Rattle.odb_text.proofs.DumpFollows.{dump_follows_walk}
use Rattle.odb_text.proofs.laws.dump_follows_walk.Goals as goal

pub returns : goal.returns
returns c = dump_follows_walk
