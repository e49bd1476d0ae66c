use Rattle.session_laws.proofs.NamesStay.{names_stay}
use Rattle.session_laws.proofs.laws.other_names_stay.Goals as goal

pub returns : goal.returns
returns c = names_stay c.turns_begun.ensures.begun c.gives_once.ensures
