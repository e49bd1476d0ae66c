use Rattle.std.proofs.Common.{◌≡◌, ◌+◌, ℕ, subst, sym, ap, ◌∙◌}
use Rattle.buffer_core.specs.Window.{Window, IsWindow, accepted_of}
use Rattle.plain_buffer.proofs.Kept.{length-kept_of}
use Rattle.plain_buffer.proofs.plain.PlainBufferEventBuffer.accepted.Goals as goal

pub returns : goal.returns
returns c = record {
  reply = subst (λ (w : Window). c.self.inside.first + c.len.result ≡ accepted_of w) c.self.view_is
      (ap (λ (n : ℕ). c.self.inside.first + n) (c.len.ensures ∙ (c.self.inside.rows.ok.0 ∙ sym (length-kept_of c.self.inside.rows.items c.self.inside.bytes.items))));
  window = subst IsWindow c.self.view_is c.self.invariant.kept;
}
