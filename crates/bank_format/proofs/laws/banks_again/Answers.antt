use Rattle.bank_format.proofs.FrontLaws.{area_again}
use Rattle.bank_format.proofs.laws.banks_again.Goals as goal

pub returns : goal.returns
returns c = area_again
