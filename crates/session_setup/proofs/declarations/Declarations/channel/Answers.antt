use Rattle.std.proofs.Common.{◌≡◌, ◌∙◌, sym, Some, None}
use Rattle.session_setup.specs.SetupLines.{channel_refusal}
use Rattle.session_setup.proofs.Sounds.{channel_sound}
use Rattle.session_setup.proofs.declarations.Declarations.channel.Goals as goal

pub add_channel-requires : goal.add_channel-requires
add_channel-requires c =
    let taken : channel_refusal c.args.self.now c.args.number (Some c.in-Some-read.pattern) c.args.pattern.now c.args.buffer.now ≡ None =
    rw c.in-Some-read.is at (sym c.channel_refusal.ensures.answer ∙ c.in_default.is) in
    rw c.number_of_buffer-buffer.ensures
    (channel_sound c.args.self.now c.args.number c.in-Some-read.pattern c.args.pattern.now c.args.buffer.now c.args.id c.args.mask c.args.sub_bytes c.channel_refusal.ensures.sound taken)
