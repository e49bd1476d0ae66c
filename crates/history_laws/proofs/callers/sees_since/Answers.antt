use Rattle.history_laws.proofs.RunsSince.{seen_since}
use Rattle.history_laws.proofs.callers.sees_since.Goals as goal

pub returns : goal.returns
returns c = seen_since c.of_buffers.ensures
