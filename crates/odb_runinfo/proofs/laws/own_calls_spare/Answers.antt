use Rattle.odb_runinfo.proofs.RunSetLaws.{sets_spare, front_spares, number_spares}
use Rattle.odb_runinfo.proofs.laws.own_calls_spare.Goals as goal

pub returns-clause-sets : goal.returns-clause-sets
returns-clause-sets c = sets_spare

pub returns-clause-front : goal.returns-clause-front
returns-clause-front c = front_spares

pub returns-clause-number : goal.returns-clause-number
returns-clause-number c = number_spares
