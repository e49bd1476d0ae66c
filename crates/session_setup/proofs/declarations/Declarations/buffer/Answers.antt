use Rattle.std.proofs.Common.{◌≡◌, ◌∙◌, sym}
use Rattle.session_setup.proofs.Sounds.{buffer_sound}
use Rattle.session_setup.proofs.declarations.Declarations.buffer.Goals as goal

pub add_buffer-requires : goal.add_buffer-requires
add_buffer-requires c = let named : c.in-Ok.name ≡ c.args.name.now = rw c.in-Ok.is at c.new-read.ensures.name in
    rw named (buffer_sound c.args.self.now c.new-read.result c.args.name.now c.args.size c.buffer_refusal.ensures.sound (sym c.buffer_refusal.ensures.answer ∙ c.in_default.is))
