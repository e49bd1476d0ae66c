use Rattle.odb_runinfo.proofs.NumberKept.{number_way, number_given, number_read}
use Rattle.odb_runinfo.proofs.laws.run_number_given.Goals as goal

pub returns-clause-way : goal.returns-clause-way
returns-clause-way c = number_way

pub returns-clause-read : goal.returns-clause-read
returns-clause-read c = number_read

pub returns-clause-value : goal.returns-clause-value
returns-clause-value c = number_given
