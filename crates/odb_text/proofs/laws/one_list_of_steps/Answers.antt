use Rattle.odb_text.proofs.OneReading.{one_reading}
use Rattle.odb_text.proofs.laws.one_list_of_steps.Goals as goal

pub returns : goal.returns
returns c = one_reading
