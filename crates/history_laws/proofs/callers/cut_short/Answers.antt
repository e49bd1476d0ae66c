use Rattle.history_laws.proofs.RunsCut.{cut_events}
use Rattle.history_laws.proofs.callers.cut_short.Goals as goal

pub returns : goal.returns
returns c = cut_events c.of_buffers.ensures
