use Rattle.std.proofs.Common.{◌≤◌, sym, ◌∙◌, subst, arith}
use Rattle.buffer_core.specs.Window.{Window}
use Rattle.buffer_core.proofs.WindowKept.{running_last}
use Rattle.plain_buffer.proofs.plain.PlainBufferEventBuffer.send_in_run.Goals as goal

pub put-requires : goal.put-requires
put-requires c =
    subst (λ (w : Window). c.args.start ≤ w.last) c.self.view_is
    (omega (arith, running_last c.self.inside.gate c.self.inside.last c.args.start c.self.invariant.kept.gate (sym c.is_running.ensures ∙ c.if-not-is_running.false)))
