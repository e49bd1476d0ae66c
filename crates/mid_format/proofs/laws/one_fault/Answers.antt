use Rattle.mid_format.proofs.ReadLaws.{one_fault, whole_no_fault}
use Rattle.mid_format.proofs.laws.one_fault.Goals as goal

pub returns : goal.returns
returns c = record { one = one_fault; none = whole_no_fault }
