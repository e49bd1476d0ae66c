use Rattle.std.proofs.Common.{◌≡◌, ◌∙◌, sym}
use Rattle.session_setup.proofs.Sounds.{analyzer_sound}
use Rattle.session_setup.proofs.declarations.Declarations.analyzer.Goals as goal

pub add_analyzer-requires : goal.add_analyzer-requires
add_analyzer-requires c = let named : c.in-Ok.name ≡ c.args.name.now = rw c.in-Ok.is at c.new-read.ensures.name in
    rw (named, c.number_of_buffer-buffer.ensures)
    (analyzer_sound c.args.self.now c.new-read.result c.args.name.now c.args.buffer.now c.args.id c.args.mask c.args.kind c.analyzer_refusal.ensures.sound (sym c.analyzer_refusal.ensures.answer ∙ c.in_default.is))
