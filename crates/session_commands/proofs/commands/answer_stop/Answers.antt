use Rattle.std.proofs.Common.{inl}
use Rattle.std.proofs.lemmas.Result.{on_err_weaker}
use Rattle.session_commands.proofs.commands.answer_stop.Goals as goal

pub returns-clause-cut : goal.returns-clause-cut
returns-clause-cut g c = on_err_weaker c.reply_for.result (λ stopped. inl (stopped.0, (rw stopped.1 at c.in_ok-answer.ensures.did))) c.reply_for.ensures.stopped
