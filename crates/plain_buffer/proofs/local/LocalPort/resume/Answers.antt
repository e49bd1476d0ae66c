use Rattle.buffer_core.specs.declared.entry.BufferEntry.TheVariants.{Resume}
use Rattle.plain_buffer.proofs.PortLaws.{ported_next}
use Rattle.plain_buffer.proofs.local.LocalPort.resume.Goals as goal

pub invariant_of-self : goal.invariant_of-self
invariant_of-self g c =
    ported_next _ _ _ _ _ (Resume c.args.start c.resume-reply.result) c.self.invariant c.resume-reply.ensures.reply c.resume-reply.ensures.after c.push.ensures.entries
