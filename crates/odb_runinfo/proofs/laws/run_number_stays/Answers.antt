use Rattle.odb_runinfo.proofs.NumberKept.{number_stays, number_put}
use Rattle.odb_runinfo.proofs.laws.run_number_stays.Goals as goal

pub returns-clause-calls : goal.returns-clause-calls
returns-clause-calls c = number_stays

pub returns-clause-put : goal.returns-clause-put
returns-clause-put c = number_put
