use Rattle.buffer_core.specs.declared.entry.BufferEntry.TheVariants.{Cancel}
use Rattle.plain_buffer.proofs.PortLaws.{ported_next}
use Rattle.plain_buffer.proofs.local.LocalPort.cancel.Goals as goal

pub invariant_of-self : goal.invariant_of-self
invariant_of-self g c =
    ported_next _ _ _ _ _ (Cancel c.args.client c.args.request c.cancel-reply.result) c.self.invariant c.cancel-reply.ensures.reply c.cancel-reply.ensures.after c.push.ensures.entries
