use Rattle.session_runs.proofs.Counted.{counted}
use Rattle.session_runs.proofs.laws.members_counted.Goals as goal

pub returns : goal.returns
returns c = counted
