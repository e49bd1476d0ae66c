use Rattle.buffer_core.proofs.Continuing.{history_sends}
use Rattle.buffer_core.proofs.laws.sends_in_runs.Goals as goal

pub returns : goal.returns
returns c = history_sends
