use Rattle.std.proofs.Common.{◌≡◌, subst, sym, ◌∙◌}
use Rattle.buffer_core.specs.Window.{Window, level_of}
use Rattle.plain_buffer.proofs.Room.{whole_is}
use Rattle.plain_buffer.proofs.Kept.{sum_by-kept_of}
use Rattle.plain_buffer.proofs.plain.PlainBufferEventBuffer.level.Goals as goal

pub returns : goal.returns
returns c = record {
  reply = subst (λ (w : Window). c.self.inside.level ≡ level_of w) c.self.view_is
      (c.self.invariant.counted ∙ sym (sum_by-kept_of c.self.inside.rows.items c.self.inside.bytes.items (whole_is c.self.inside c.self.invariant)));
}
