use Rattle.buffer_core.specs.declared.entry.BufferEntry.TheVariants.{End}
use Rattle.plain_buffer.proofs.PortLaws.{ported_next}
use Rattle.plain_buffer.proofs.local.LocalPort.end.Goals as goal

pub invariant_of-self : goal.invariant_of-self
invariant_of-self g c =
    ported_next _ _ _ _ _ (End c.args.start c.end-reply.result) c.self.invariant c.end-reply.ensures.reply c.end-reply.ensures.after c.push.ensures.entries
