use Rattle.std.proofs.Common.{sym, arith}
use Rattle.transitions.proofs.EngineKept.{open_progress}
use Rattle.transitions.proofs.engine.find_progress.Goals as goal

pub returns-in_default-2 : goal.returns-in_default-2
returns-in_default-2 c = sym (open_progress c.args.polled.now c.args.called.now c.args.refusal (omega (arith, c.in_default.len_at_least)))
