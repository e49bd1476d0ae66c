use Rattle.buffer_core.proofs.Searching.{found_first, first_found_is, not_found_none, none_not_found}
use Rattle.buffer_core.proofs.laws.finds_first.Goals as goal

pub returns : goal.returns
returns c = record { found = found_first; first = first_found_is; none = not_found_none; empty = none_not_found }
