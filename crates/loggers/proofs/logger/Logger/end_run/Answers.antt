use Rattle.std.proofs.Common.{sym, ◌∙◌}
use Rattle.loggers.proofs.EndedReady.{ended_idle, ended_ready}
use Rattle.loggers.proofs.logger.Logger.end_run.Goals as goal

pub returns-clause-ready : goal.returns-clause-ready
returns-clause-ready g c = λ ports ready. ended_ready _ _ _ _ ports (sym c.are_settled.ensures ∙ c.if-not-are_settled.false) c.end_files-told.ensures.ends c.end_files-told.ensures.files ready

pub returns-clause-idle : goal.returns-clause-idle
returns-clause-idle g c = λ off. ended_idle _ _ _ _ (sym c.are_settled.ensures ∙ c.if-not-are_settled.false) c.end_files-told.ensures.ends
