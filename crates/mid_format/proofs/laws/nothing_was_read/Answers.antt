use Rattle.mid_format.proofs.ReadLaws.{has_read_none}
use Rattle.mid_format.proofs.laws.nothing_was_read.Goals as goal

pub returns : goal.returns
returns c = has_read_none
