use Rattle.session_laws.proofs.OneEach.{starts_differ}
use Rattle.session_laws.proofs.laws.starts_differ.Goals as goal

pub returns : goal.returns
returns c = starts_differ c.start_numbers_rise.ensures
