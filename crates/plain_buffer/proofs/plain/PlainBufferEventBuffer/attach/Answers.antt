use Rattle.std.proofs.Common.{ap, sym, ◌∙◌}
use Rattle.buffer_core.specs.Window.{accepted_of}
use Rattle.plain_buffer.specs.Plain.{plain_window}
use Rattle.plain_buffer.proofs.Stays.{plain_clients, window_attach}
use Rattle.plain_buffer.proofs.plain.PlainBufferEventBuffer.attach.Goals as goal

pub invariant_of-self : goal.invariant_of-self
invariant_of-self c =
    plain_clients c.self.inside c.attach.new.self c.self.invariant
    (window_attach (plain_window c.self.inside) c.args.name c.accepted-next.result c.attach.result c.attach.new.self c.self.invariant.kept
    (c.accepted-next.ensures.reply ∙ ap accepted_of (sym c.self.view_is)) c.attach.ensures.reply c.attach.ensures.ok c.attach.ensures.err)
