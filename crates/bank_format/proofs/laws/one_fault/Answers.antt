use Rattle.bank_format.proofs.FaultLaws.{one_fault, area_has_no_fault}
use Rattle.bank_format.proofs.laws.one_fault.Goals as goal

pub returns : goal.returns
returns c = record { one = one_fault; none = area_has_no_fault }
