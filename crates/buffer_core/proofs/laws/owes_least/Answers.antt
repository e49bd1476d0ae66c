use Rattle.buffer_core.proofs.Searching.{owed_least, least_owed_is, not_owed_none, none_not_owed}
use Rattle.buffer_core.proofs.laws.owes_least.Goals as goal

pub returns : goal.returns
returns c = record { owed = owed_least; least = least_owed_is; none = not_owed_none; empty = none_not_owed }
