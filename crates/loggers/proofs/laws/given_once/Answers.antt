use Rattle.loggers.proofs.OnceBefore.{turn_once, pull_once}
use Rattle.loggers.proofs.laws.given_once.Goals as goal

pub returns-clause-turns : goal.returns-clause-turns
returns-clause-turns c = turn_once

pub returns-clause-pulls : goal.returns-clause-pulls
returns-clause-pulls c = pull_once
