use Rattle.loggers.proofs.StoppedRuns.{keeps_contract}
use Rattle.loggers.proofs.laws.logger_keeps.Goals as goal

pub returns : goal.returns
returns c = λ run dumps slots ports turns seen absent stands. keeps_contract run dumps slots ports turns seen absent stands.holds
