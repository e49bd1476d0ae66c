use Rattle.std.proofs.Common.{refl}
use Rattle.buffer_lock.proofs.SharedPortLaws.{shared_calls, shared_number}
use Rattle.plain_buffer.proofs.owning.OwningPortBufferPort.attach.Goals as goal

pub returns-clause-called : goal.returns-clause-called
returns-clause-called g c = shared_calls _ _ _ _ _ _ _ (λ w. refl) c.call.ensures.opens c.call.ensures.entered.number c.call.ensures.entered.appends c.call.ensures.legal

pub returns-clause-number : goal.returns-clause-number
returns-clause-number g c = shared_number _ _ _ _ _ _ _ c.call.ensures.opens c.call.ensures.entered.number c.call.ensures.entered.appends c.call.ensures.legal
