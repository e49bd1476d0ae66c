use Rattle.buffer_core.specs.declared.entry.BufferEntry.TheVariants.{Pause}
use Rattle.plain_buffer.proofs.PortLaws.{ported_next}
use Rattle.plain_buffer.proofs.local.LocalPort.pause.Goals as goal

pub invariant_of-self : goal.invariant_of-self
invariant_of-self g c =
    ported_next _ _ _ _ _ (Pause c.args.start c.pause-reply.result) c.self.invariant c.pause-reply.ensures.reply c.pause-reply.ensures.after c.push.ensures.entries
