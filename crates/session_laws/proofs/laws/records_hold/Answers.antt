use Rattle.session_laws.proofs.RecordsMade.{records_hold}
use Rattle.session_laws.proofs.laws.records_hold.Goals as goal

pub returns : goal.returns
returns c = records_hold
