use Rattle.transitions.proofs.Marked.{end_of}
use Rattle.transitions.proofs.laws.tallies_belong.Goals as goal

pub returns : goal.returns
returns g c = end_of g.R.ClientReport.is_blank
