use Rattle.buffer_lock.proofs.SharedPortLaws.{shared_few, shared_receives, shared_sound, shared_whole}
use Rattle.plain_buffer.proofs.owning.OwningPortBufferPort.receive.Goals as goal

pub returns-clause-called : goal.returns-clause-called
returns-clause-called g c = shared_receives _ _ _ _ _ _ _ _ _ _ c.call.ensures.opens c.call.ensures.entered.number c.call.ensures.entered.appends c.call.ensures.legal c.call.ensures.tells.0 _

pub returns-clause-sound : goal.returns-clause-sound
returns-clause-sound g c = shared_sound _ _ _ _ _ _ _ _ _ _ c.call.ensures.opens c.call.ensures.entered.number c.call.ensures.entered.appends c.call.ensures.legal c.call.ensures.tells.0

pub returns-clause-whole : goal.returns-clause-whole
returns-clause-whole g c = shared_whole _ _ _ _ _ _ _ _ _ _ c.call.ensures.opens c.call.ensures.entered.number c.call.ensures.entered.appends c.call.ensures.legal c.call.ensures.tells.0

pub returns-clause-few : goal.returns-clause-few
returns-clause-few g c = shared_few _ _ _ _ _ _ _ _ _ _ c.call.ensures.opens c.call.ensures.entered.number c.call.ensures.entered.appends c.call.ensures.legal c.call.ensures.tells.0
