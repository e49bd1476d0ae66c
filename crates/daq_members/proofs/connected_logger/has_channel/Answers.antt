use Rattle.std.specs.Prelude.{is_some, unwrap_or, None}
use Rattle.std.proofs.Common.{ap, ◌∙◌}
use Rattle.std.proofs.lemmas.Option.{unwrap_or-slice_get}
use Rattle.daq_members.proofs.connected_logger.has_channel.Goals as goal

pub returns : goal.returns
returns c = c.is_there.ensures ∙ (ap (λ o. is_some (unwrap_or o None)) c.get.ensures ∙ ap is_some (unwrap_or-slice_get c.args.logger.now.channels c.args.channel None))
