use Rattle.std.proofs.Common.{refl}
use Rattle.buffer_core.specs.declared.entry.BufferEntry.TheVariants.{Accepted}
use Rattle.plain_buffer.proofs.PortLaws.{ported_next}
use Rattle.plain_buffer.proofs.local.LocalPort.accepted.Goals as goal

pub invariant_of-self : goal.invariant_of-self
invariant_of-self g c = ported_next _ _ _ _ _ (Accepted c.accepted-reply.result) c.self.invariant c.accepted-reply.ensures.reply refl c.push.ensures.entries
