use Rattle.mid_format.proofs.ReadLaws.{one_whole}
use Rattle.mid_format.proofs.laws.one_reading.Goals as goal

pub returns : goal.returns
returns c = one_whole
