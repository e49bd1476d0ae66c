use Rattle.command_words.proofs.FormParts.{one_form}
use Rattle.command_words.proofs.laws.one_form.Goals as goal

pub returns : goal.returns
returns c = one_form
