use Rattle.session_laws.proofs.RunsMade.{stopped_hold}
use Rattle.session_laws.proofs.laws.stopped_hold.Goals as goal

pub returns : goal.returns
returns c = stopped_hold
