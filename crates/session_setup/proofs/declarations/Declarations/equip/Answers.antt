use Rattle.std.proofs.Common.{◌≡◌, ◌∙◌, sym}
use Rattle.session_setup.proofs.Sounds.{front_sound}
use Rattle.session_setup.proofs.declarations.Declarations.equip.Goals as goal

pub add_front-requires : goal.add_front-requires
add_front-requires c = let named : c.in-Ok.name ≡ c.args.name.now = rw c.in-Ok.is at c.new-read.ensures.name in
    rw (named, c.narrowed-id.ensures, c.number_of_buffer-buffer.ensures)
    (front_sound c.args.self.now c.new-read.result c.args.name.now c.args.id c.args.mask c.args.buffer.now c.args.limit c.equip_refusal.ensures.sound (sym c.equip_refusal.ensures.answer ∙ c.in_default.is))
