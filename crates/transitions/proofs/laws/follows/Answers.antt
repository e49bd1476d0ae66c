use Rattle.transitions.proofs.Followed.{history_in_order}
use Rattle.transitions.proofs.laws.follows.Goals as goal

pub returns : goal.returns
returns g c = history_in_order g.R.ClientReport.is_blank
