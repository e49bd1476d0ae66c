use Rattle.buffer_core.specs.declared.entry.BufferEntry.TheVariants.{Attach}
use Rattle.plain_buffer.proofs.PortLaws.{ported_next}
use Rattle.plain_buffer.proofs.local.LocalPort.attach.Goals as goal

pub invariant_of-self : goal.invariant_of-self
invariant_of-self g c =
    ported_next _ _ _ _ _ (Attach c.args.name c.attach-reply.result) c.self.invariant c.attach-reply.ensures.reply c.attach-reply.ensures.after c.push.ensures.entries
