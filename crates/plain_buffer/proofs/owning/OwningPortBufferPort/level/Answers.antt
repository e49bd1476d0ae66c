use Rattle.std.proofs.Common.{refl}
use Rattle.buffer_lock.proofs.SharedPortLaws.{shared_calls}
use Rattle.plain_buffer.proofs.owning.OwningPortBufferPort.level.Goals as goal

pub returns : goal.returns
returns g c = shared_calls _ _ _ _ _ _ _ (λ w. refl) c.call.ensures.opens c.call.ensures.entered.number c.call.ensures.entered.appends c.call.ensures.legal
