use Rattle.history_laws.proofs.RunsRead.{read_events}
use Rattle.history_laws.proofs.callers.reads_events.Goals as goal

pub returns : goal.returns
returns c = read_events c.of_buffers.ensures
