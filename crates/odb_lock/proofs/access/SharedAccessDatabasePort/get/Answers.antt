use Rattle.odb_lock.proofs.SharedAccessLaws.{shared_adds}
use Rattle.odb_lock.proofs.access.SharedAccessDatabasePort.get.Goals as goal

pub returns : goal.returns
returns g c = shared_adds _ _ _ _ _ _ c.call.ensures.entered.number c.call.ensures.entered.appends c.call.ensures.legal
