use Rattle.transitions.proofs.Given.{turn_repeats}
use Rattle.transitions.proofs.laws.turn_repeats.Goals as goal

pub returns : goal.returns
returns g c = turn_repeats g.R.ClientReport.is_blank
