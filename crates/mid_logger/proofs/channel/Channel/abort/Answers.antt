use Rattle.mid_logger.proofs.EndSteps.{called_off}
use Rattle.mid_logger.proofs.channel.Channel.abort.Goals as goal

pub returns-clause-keeps : goal.returns-clause-keeps
returns-clause-keeps g c = λ head stands. rw c.remove_run.ensures.channel (called_off _ _ _ head _ _ _ _ c.cancel_standing.ensures stands)
