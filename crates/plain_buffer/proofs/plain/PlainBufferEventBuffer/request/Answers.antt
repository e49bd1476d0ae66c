use Rattle.std.proofs.Common.{ap, sym, ◌∙◌}
use Rattle.std.specs.Prelude.{Some, slice_set}
use Rattle.buffer_core.specs.declared.client.Client.{Client}
use Rattle.buffer_core.specs.Window.{accepted_of}
use Rattle.plain_buffer.specs.Plain.{plain_window}
use Rattle.plain_buffer.proofs.Stays.{plain_clients, window_request}
use Rattle.plain_buffer.proofs.plain.PlainBufferEventBuffer.request.Goals as goal

pub invariant_of-self : goal.invariant_of-self
invariant_of-self c =
    plain_clients c.self.inside c.set.new.self c.self.invariant
    (window_request (plain_window c.self.inside) c.args.client c.in-Some-free_number.number c.args.id c.args.mask c.accepted-since.result c.args.kind c.in-Some.reader c.set.new.self c.self.invariant.kept
    (sym c.in-Some.ensures) (sym c.in-Some-free_number.ensures) (c.accepted-since.ensures.reply ∙ ap accepted_of (sym c.self.view_is)) (c.set.ensures ∙ ap (λ (x : Client). slice_set c.self.inside.clients c.args.client (Some x)) c.with_request.ensures))
