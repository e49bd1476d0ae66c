use Rattle.buffer_core.proofs.Searching.{drop_least, least_drop_is}
use Rattle.buffer_core.proofs.laws.drops_least.Goals as goal

pub returns : goal.returns
returns c = record { dropped = drop_least; least = least_drop_is }
