use Rattle.std.proofs.Common.{[], ◌∷◌, ◌++◌, ap, ◌∙◌}
use Rattle.event.specs.Headers.{event_of}
use Rattle.daq_types.specs.declared.events.Event.{Event}
use Rattle.buffer_core.specs.declared.entry.BufferEntry.TheVariants.{SendInRun}
use Rattle.plain_buffer.specs.Journals.{event_with}
use Rattle.plain_buffer.proofs.PortLaws.{ported_next}
use Rattle.plain_buffer.proofs.local.LocalPort.send_in_run.Goals as goal

pub invariant_of-self : goal.invariant_of-self
invariant_of-self g c =
    ported_next _ _ _ _ _ (SendInRun c.args.start c.args.header.now.data_size (event_of c.args.header.now c.args.body.now) c.send_in_run-reply.result) c.self.invariant c.send_in_run-reply.ensures.reply c.send_in_run-reply.ensures.after
    (c.push.ensures.entries
    ∙ ap (λ (e : Event). c.self.inside.journal.entries ++ (c.self.inside.caller, SendInRun c.args.start c.args.header.now.data_size (event_with c.args.body.now e) c.send_in_run-reply.result) ∷ []) c.without_data.ensures)
