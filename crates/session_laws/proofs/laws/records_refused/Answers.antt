use Rattle.session_laws.proofs.StartsRefused.{records_refused}
use Rattle.session_laws.proofs.laws.records_refused.Goals as goal

pub returns : goal.returns
returns c = records_refused
