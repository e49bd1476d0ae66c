use Rattle.std.proofs.Common.{sym, arith}
use Rattle.transitions.proofs.EngineKept.{open_state}
use Rattle.transitions.proofs.engine.find_state.Goals as goal

pub returns-in_default-2 : goal.returns-in_default-2
returns-in_default-2 c = sym (open_state c.args.state c.args.transition c.args.refusal c.args.polled.now c.args.called.now (omega (arith, c.in_default.len_at_least)))
