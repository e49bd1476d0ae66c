use Rattle.std.proofs.Common.{◌≡◌, ◌∙◌, [], sym, ap, subst}
use Rattle.session_setup.specs.Setup.{Declared, AreSound}
use Rattle.session_setup.proofs.Sounds.{default_channel_sound, no_items}
use Rattle.session_setup.proofs.declarations.Declarations.default_channel.Goals as goal

pub add_channel-requires : goal.add_channel-requires
add_channel-requires c = let sound : AreSound c.args.self.now = subst AreSound c.self.view_is c.self.invariant in
    let empty : c.args.self.now.channels ≡ [] = sym (ap (λ (d : Declared). d.channels) c.self.view_is) ∙ (sym c.as_slice.ensures ∙ no_items c.as_slice.result.now c.if-is_empty.ensures) in
    rw c.with_parts.ensures (default_channel_sound c.args.self.now sound empty)
