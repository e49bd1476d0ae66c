use Rattle.session_laws.proofs.RunsMade.{made_are_stopped}
use Rattle.session_laws.proofs.laws.made_are_stopped.Goals as goal

pub returns : goal.returns
returns c = made_are_stopped c.main_has_transition.ensures
