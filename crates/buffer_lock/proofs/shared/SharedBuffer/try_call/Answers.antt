use Rattle.buffer_lock.proofs.SharedLaws.{leads_legal, leads_replay, opens_window}
use Rattle.buffer_lock.proofs.shared.SharedBuffer.try_call.Goals as goal

pub returns-in-Ok-clause-opens : goal.returns-in-Ok-clause-opens
returns-in-Ok-clause-opens g c = opens_window _ _ _ _ _ _ c.in-Ok.ensures.entered.appends.list c.in-Ok.ensures.told.1

pub returns-in-Ok-clause-legal : goal.returns-in-Ok-clause-legal
returns-in-Ok-clause-legal g c = leads_legal _ _ _ c.in-Ok.ensures.told.1

pub returns-in-Ok-clause-tells : goal.returns-in-Ok-clause-tells
returns-in-Ok-clause-tells g c = rw (leads_replay _ _ _ c.in-Ok.ensures.told.1) at c.in-Ok.ensures.told.2
