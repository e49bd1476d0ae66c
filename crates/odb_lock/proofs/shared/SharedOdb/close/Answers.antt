use Rattle.odb_lock.proofs.SharedLaws.{leads_database}
use Rattle.odb_lock.proofs.shared.SharedOdb.close.Goals as goal

pub returns-in-Ok-clause-leads : goal.returns-in-Ok-clause-leads
returns-in-Ok-clause-leads g c = leads_database _ _ _ c.in-Ok.ensures.legal
