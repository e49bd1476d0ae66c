use Rattle.buffer_core.specs.declared.entry.BufferEntry.TheVariants.{Begin}
use Rattle.plain_buffer.proofs.PortLaws.{ported_next}
use Rattle.plain_buffer.proofs.local.LocalPort.begin.Goals as goal

pub invariant_of-self : goal.invariant_of-self
invariant_of-self g c =
    ported_next _ _ _ _ _ (Begin c.args.start c.begin-reply.result) c.self.invariant c.begin-reply.ensures.reply c.begin-reply.ensures.after c.push.ensures.entries
