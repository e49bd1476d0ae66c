use Rattle.transitions.proofs.CalledOrdered.{called_list_is}
use Rattle.transitions.proofs.laws.called_in_order.Goals as goal

pub returns : goal.returns
returns c = called_list_is
