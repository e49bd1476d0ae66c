use Rattle.mid_logger.proofs.PullSteps.{pull_kept}
use Rattle.mid_logger.proofs.channel.Channel.pull.Goals as goal

pub returns-clause-keeps : goal.returns-clause-keeps
returns-clause-keeps g c = λ head is stands. rw (c.pull_once.ensures.spec, c.pull_once.ensures.client) (pull_kept _ _ _ head c.pull_once.ensures.pulls is stands)
