use Rattle.mid_logger.proofs.EndSteps.{left_by, settled}
use Rattle.mid_logger.proofs.channel.Channel.close.Goals as goal

pub returns-clause-left : goal.returns-clause-left
returns-clause-left g c = λ head own got stands. rw c.told_end.ensures.told (left_by _ _ _ _ _ _ head own got _ _ _ _ c.close_file-state.ensures.closes stands)

pub returns-clause-keeps : goal.returns-clause-keeps
returns-clause-keeps g c = λ head own got stands. rw c.close_file-state.ensures.channel (settled _ _ _ _ _ _ head own got _ _ _ _ c.close_file-state.ensures.closes stands)
