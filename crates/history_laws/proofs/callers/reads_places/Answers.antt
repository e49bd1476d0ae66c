use Rattle.history_laws.proofs.RunsRead.{read_places}
use Rattle.history_laws.proofs.callers.reads_places.Goals as goal

pub returns : goal.returns
returns c = read_places c.of_buffers.ensures
