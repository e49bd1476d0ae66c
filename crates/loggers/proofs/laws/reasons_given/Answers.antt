use Rattle.loggers.proofs.ManyRose.{reasons_tell}
use Rattle.loggers.proofs.ReasonsKept.{turn_reasons, pull_reasons, finish_reasons, clashes_are_told}
use Rattle.loggers.proofs.laws.reasons_given.Goals as goal

pub returns : goal.returns
returns c = record { turns = turn_reasons; pulls = pull_reasons; finishes = finish_reasons; tell = reasons_tell; names = clashes_are_told }
