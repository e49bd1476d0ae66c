use Rattle.mid_logger.proofs.OpenSteps.{opened_kept, not_opened_kept, opened_file, opened_few}
use Rattle.mid_logger.proofs.channel.Channel.open.Goals as goal

pub returns-clause-asking : goal.returns-clause-asking
returns-clause-asking g c = rw c.open_run.ensures.spec (opened_kept _ _ _ c.open_run.result _ _ c.open_run.ensures.opens c.requires.idle c.requires.small)

pub returns-clause-idle : goal.returns-clause-idle
returns-clause-idle g c = rw c.open_run.ensures.spec (not_opened_kept _ _ _ c.open_run.result _ _ c.open_run.ensures.opens c.requires.idle)

pub returns-clause-file : goal.returns-clause-file
returns-clause-file g c = rw c.open_run.ensures.spec (opened_file _ _ _ c.open_run.result _ _ c.open_run.ensures.opens c.requires.idle)

pub returns-clause-few : goal.returns-clause-few
returns-clause-few g c = opened_few _ _ _ c.open_run.result _ _ c.open_run.ensures.opens c.requires.idle
