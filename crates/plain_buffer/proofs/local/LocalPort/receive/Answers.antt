use Rattle.std.proofs.Common.{ℕ, [], ◌∷◌, ◌++◌, ap, ◌∙◌}
use Rattle.buffer_core.specs.declared.entry.BufferEntry.TheVariants.{Receive}
use Rattle.plain_buffer.proofs.PortLaws.{ported_next}
use Rattle.plain_buffer.proofs.local.LocalPort.receive.Goals as goal

pub invariant_of-self : goal.invariant_of-self
invariant_of-self g c =
    ported_next _ _ _ _ _ (Receive c.args.client c.args.into.now.room c.receive-reply.result) c.self.invariant c.receive-reply.ensures.reply c.receive-reply.ensures.after
    (c.push.ensures.entries
    ∙ ap (λ (n : ℕ). c.self.inside.journal.entries ++ (c.self.inside.caller, Receive c.args.client n c.receive-reply.result) ∷ []) c.room-room.ensures)
