use Rattle.history_laws.proofs.MainCalls.{main_has}
use Rattle.history_laws.proofs.engines.main_has_transition.Goals as goal

pub returns : goal.returns
returns c = main_has
