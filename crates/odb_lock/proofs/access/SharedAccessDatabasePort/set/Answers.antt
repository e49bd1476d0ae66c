use Rattle.odb_lock.proofs.SharedAccessLaws.{shared_adds}
use Rattle.odb_lock.proofs.access.SharedAccessDatabasePort.set.Goals as goal

pub returns : goal.returns
returns g c = record { called = shared_adds _ _ _ _ _ _ c.call.ensures.entered.number c.call.ensures.entered.appends c.call.ensures.legal }
