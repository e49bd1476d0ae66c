use Rattle.buffer_core.specs.declared.entry.BufferEntry.TheVariants.{Detach}
use Rattle.plain_buffer.proofs.PortLaws.{ported_next}
use Rattle.plain_buffer.proofs.local.LocalPort.detach.Goals as goal

pub invariant_of-self : goal.invariant_of-self
invariant_of-self g c =
    ported_next _ _ _ _ _ (Detach c.args.client c.detach-reply.result) c.self.invariant c.detach-reply.ensures.reply c.detach-reply.ensures.after c.push.ensures.entries
