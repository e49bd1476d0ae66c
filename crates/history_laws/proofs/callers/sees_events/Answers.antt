use Rattle.history_laws.proofs.RunsSeen.{seen_events}
use Rattle.history_laws.proofs.callers.sees_events.Goals as goal

pub returns : goal.returns
returns c = seen_events c.of_buffers.ensures
