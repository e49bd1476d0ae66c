use Rattle.odb_lock.proofs.SharedAccessLaws.{shared_adds}
use Rattle.odb_lock.proofs.access.SharedAccessWatchPort.load.Goals as goal

pub returns : goal.returns
returns g c = record { called = shared_adds _ _ _ _ _ _ c.load.ensures.entered.number c.load.ensures.entered.appends c.load.ensures.legal }
