use Rattle.buffer_core.specs.declared.entry.BufferEntry.TheVariants.{Request}
use Rattle.plain_buffer.proofs.PortLaws.{ported_next}
use Rattle.plain_buffer.proofs.local.LocalPort.request.Goals as goal

pub invariant_of-self : goal.invariant_of-self
invariant_of-self g c =
    ported_next _ _ _ _ _ (Request c.args.client c.args.id c.args.mask c.args.kind c.request-reply.result) c.self.invariant c.request-reply.ensures.reply c.request-reply.ensures.after c.push.ensures.entries
