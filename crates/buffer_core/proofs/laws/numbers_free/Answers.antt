use Rattle.buffer_core.proofs.Continuing.{history_numbers}
use Rattle.buffer_core.proofs.laws.numbers_free.Goals as goal

pub returns : goal.returns
returns c = history_numbers
