use Rattle.std.proofs.Common.{refl}
use Rattle.buffer_core.specs.declared.entry.BufferEntry.TheVariants.{Level}
use Rattle.plain_buffer.proofs.PortLaws.{ported_next}
use Rattle.plain_buffer.proofs.local.LocalPort.level.Goals as goal

pub invariant_of-self : goal.invariant_of-self
invariant_of-self g c = ported_next _ _ _ _ _ (Level c.level-reply.result) c.self.invariant c.level-reply.ensures.reply refl c.push.ensures.entries
