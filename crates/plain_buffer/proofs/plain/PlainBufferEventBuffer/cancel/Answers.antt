use Rattle.std.proofs.Common.{ap, sym, ◌∙◌}
use Rattle.std.specs.Prelude.{Some, slice_set}
use Rattle.buffer_core.specs.declared.client.Client.{Client}
use Rattle.plain_buffer.specs.Plain.{plain_window}
use Rattle.plain_buffer.proofs.Stays.{plain_clients, window_cancel}
use Rattle.plain_buffer.proofs.plain.PlainBufferEventBuffer.cancel.Goals as goal

pub invariant_of-self : goal.invariant_of-self
invariant_of-self c =
    plain_clients c.self.inside c.set.new.self c.self.invariant
    (window_cancel (plain_window c.self.inside) c.args.client c.args.request c.in-Some.reader c.in-Some-request_at.field-0 c.set.new.self c.self.invariant.kept
    (sym c.in-Some.ensures) (sym c.in-Some-request_at.ensures) (c.set.ensures ∙ ap (λ (x : Client). slice_set c.self.inside.clients c.args.client (Some x)) c.with_request.ensures))
