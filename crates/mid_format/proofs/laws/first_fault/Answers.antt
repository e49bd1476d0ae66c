use Rattle.mid_format.proofs.ReadLaws.{read_fault}
use Rattle.mid_format.proofs.laws.first_fault.Goals as goal

pub returns : goal.returns
returns c = read_fault
