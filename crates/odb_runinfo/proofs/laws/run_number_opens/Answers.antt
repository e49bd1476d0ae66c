use Rattle.odb_runinfo.proofs.NumberKept.{number_opens}
use Rattle.odb_runinfo.proofs.laws.run_number_opens.Goals as goal

pub returns : goal.returns
returns c = number_opens
