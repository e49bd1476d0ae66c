use Rattle.transition_lock.proofs.SharedLaws.{leads_legal}
use Rattle.transition_lock.proofs.shared.SharedEngine.call.Goals as goal

pub returns-clause-legal : goal.returns-clause-legal
returns-clause-legal g c = leads_legal _ _ _ c.call.ensures.told.1
