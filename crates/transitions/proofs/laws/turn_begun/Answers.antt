use Rattle.transitions.proofs.Marked.{turn_begun}
use Rattle.transitions.proofs.laws.turn_begun.Goals as goal

pub returns : goal.returns
returns g c = turn_begun g.R.ClientReport.is_blank
