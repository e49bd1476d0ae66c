use Rattle.std.proofs.Common.{sym}
use Rattle.plain_buffer.specs.Plain.{plain_window}
use Rattle.plain_buffer.proofs.Stays.{plain_clients, window_detach}
use Rattle.plain_buffer.proofs.plain.PlainBufferEventBuffer.detach.Goals as goal

pub invariant_of-self : goal.invariant_of-self
invariant_of-self c =
    plain_clients c.self.inside c.set.new.self c.self.invariant
    (window_detach (plain_window c.self.inside) c.args.client c.in-Some.field-0 c.set.new.self c.self.invariant.kept (sym c.in-Some.ensures) c.set.ensures)
