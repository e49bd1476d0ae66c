use Rattle.transitions.proofs.Given.{starts_rise}
use Rattle.transitions.proofs.laws.start_numbers_rise.Goals as goal

pub returns : goal.returns
returns g c = starts_rise g.R.ClientReport.is_blank
