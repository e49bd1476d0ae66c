use Rattle.bank_format.proofs.GeneratedLaws.{generated_is_plain}
use Rattle.bank_format.proofs.laws.generated_body_is_plain.Goals as goal

pub returns : goal.returns
returns c = generated_is_plain
