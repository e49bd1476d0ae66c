use Rattle.history_laws.proofs.GivenOnce.{attaches_give_once}
use Rattle.history_laws.proofs.callers.gives_once.Goals as goal

pub returns : goal.returns
returns c = attaches_give_once c.of_buffers.ensures
