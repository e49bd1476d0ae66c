use Rattle.std.specs.Prelude.{◌<◌, ◌++◌, ℕ, List, Option, length, take}
use Rattle.std.specs.Option.{option_to_list}
use Rattle.std.proofs.Common.{ap, sym, ◌∙◌, arith}
use Rattle.session_runs.specs.declared.records.ChannelFiles.{ChannelFiles}
use Rattle.session_runs.specs.ToldTallies.{files_told}
use Rattle.session_runs.proofs.Lists.{files_next}
use Rattle.session_runs.proofs.tallied.take_told.Goals as goal

pub loop-channel-preserved : goal.loop-channel-preserved
loop-channel-preserved c =
    let channels = c.args.channels.now in
    let ends = c.args.ends.now in
    let i : ℕ = c.loop-channel.channel-index in
    let within : i < length channels = omega arith in
    let so_far = c.loop-channel.invariant in
    record {
      so_far = c.take_channel.ensures.taken
          ∙ (ap (λ (l : List ChannelFiles). l ++ option_to_list c.channel_told.result) so_far.so_far
          ∙ (ap (λ (o : Option ChannelFiles). files_told ends (take i channels) ++ option_to_list o) c.channel_told.ensures
          ∙ sym (files_next ends channels i c.channel-item.result within c.channel-item.is)));
      few = omega (arith, c.take_channel.ensures.one, so_far.few);
    }
