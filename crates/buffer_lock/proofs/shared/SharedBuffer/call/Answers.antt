use Rattle.buffer_lock.proofs.SharedLaws.{leads_legal, leads_replay, opens_window}
use Rattle.buffer_lock.proofs.shared.SharedBuffer.call.Goals as goal

pub returns-clause-opens : goal.returns-clause-opens
returns-clause-opens g c = opens_window _ _ _ _ _ _ c.call.ensures.entered.appends.list c.call.ensures.told.1

pub returns-clause-legal : goal.returns-clause-legal
returns-clause-legal g c = leads_legal _ _ _ c.call.ensures.told.1

pub returns-clause-tells : goal.returns-clause-tells
returns-clause-tells g c = rw (leads_replay _ _ _ c.call.ensures.told.1) at c.call.ensures.told.2
