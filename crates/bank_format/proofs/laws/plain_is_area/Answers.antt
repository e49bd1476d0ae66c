use Rattle.bank_format.proofs.PlainLaws.{plain_is_area}
use Rattle.bank_format.proofs.laws.plain_is_area.Goals as goal

pub returns : goal.returns
returns c = plain_is_area
