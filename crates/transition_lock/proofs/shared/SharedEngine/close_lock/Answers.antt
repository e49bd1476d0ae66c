use Rattle.transition_lock.proofs.SharedLaws.{leads_legal, leads_replay}
use Rattle.transition_lock.proofs.shared.SharedEngine.close_lock.Goals as goal

pub returns-in-Ok-clause-legal : goal.returns-in-Ok-clause-legal
returns-in-Ok-clause-legal c = leads_legal _ _ _ c.in-Ok.ensures.legal

pub returns-in-Ok-clause-replayed : goal.returns-in-Ok-clause-replayed
returns-in-Ok-clause-replayed c = leads_replay _ _ _ c.in-Ok.ensures.legal
