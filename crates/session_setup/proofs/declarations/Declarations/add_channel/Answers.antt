use Rattle.std.proofs.Common.{◌≡◌, List, ◌∷◌, [], length, ap, arith, length-append}
use Rattle.mid_logger.specs.declared.channel_spec.ChannelSpec.{ChannelSpec}
use Rattle.session_setup.specs.Setup.{Declared}
use Rattle.session_setup.proofs.Sounds.{few_channels}
use Rattle.session_setup.proofs.declarations.Declarations.add_channel.Goals as goal

pub push-requires : goal.push-requires
push-requires c = let few = few_channels _ c.requires in
    let same : c.self.inside.channels ≡ c.args.self.now.channels = ap (λ (d : Declared). d.channels) c.self.view_is in
    (omega arith, omega (arith, few, length-append c.args.self.now.channels (c.args.channel ∷ []), ap (λ (l : List ChannelSpec). length l) same))
