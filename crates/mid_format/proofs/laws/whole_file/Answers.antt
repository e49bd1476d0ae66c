use Rattle.mid_format.proofs.ReadLaws.{read_whole}
use Rattle.mid_format.proofs.laws.whole_file.Goals as goal

pub returns : goal.returns
returns c = read_whole
