use Rattle.transitions.proofs.Marked.{answer_closes}
use Rattle.transitions.proofs.laws.answer_closes.Goals as goal

pub returns : goal.returns
returns g c = answer_closes g.R.ClientReport.is_blank
