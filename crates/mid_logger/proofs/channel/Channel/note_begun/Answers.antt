use Rattle.std.proofs.Common.{◌≡◌, ◌∙◌, ap, subst}
use Rattle.mid_logger.specs.declared.stage.ChannelStage.{ChannelStage}
use Rattle.mid_logger.specs.declared.stage.ChannelStage.TheVariants.{Writing}
use Rattle.mid_logger.specs.Channels.{ChannelStands, stage_begun}
use Rattle.mid_logger.proofs.MarkSteps.{begun_with, begun_written, begun_files}
use Rattle.mid_logger.proofs.channel.Channel.note_begun.Goals as goal

pub returns-clause-keeps : goal.returns-clause-keeps
returns-clause-keeps c = λ opened head own got seen is stands.
    let now : c.begun_stage-self.result ≡ Writing opened c.args.begun = c.begun_stage-self.ensures ∙ ap (λ (s : ChannelStage). stage_begun s c.args.begun) is in
    rw now
    (begun_with _ _ c.args.self.now.spec c.args.self.now.client opened c.args.begun own got
    (subst (λ (s : ChannelStage). ChannelStands c.args.self.now.spec c.args.self.now.client s head own got seen) is stands))

pub returns-clause-file : goal.returns-clause-file
returns-clause-file c = rw c.begun_stage-self.ensures (begun_written c.args.self.now.stage c.args.begun)

pub returns-clause-few : goal.returns-clause-few
returns-clause-few c = rw c.begun_stage-self.ensures (begun_files c.args.self.now.stage c.args.begun)
