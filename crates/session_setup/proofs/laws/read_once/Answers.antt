use Rattle.session_setup.proofs.ReadOnce.{name_once, pattern_once}
use Rattle.session_setup.proofs.laws.read_once.Goals as goal

pub returns-clause-name : goal.returns-clause-name
returns-clause-name c = name_once

pub returns-clause-pattern : goal.returns-clause-pattern
returns-clause-pattern c = pattern_once c.one_pattern.ensures
