use Rattle.odb_runinfo.proofs.RunSetLaws.{sets_assigned}
use Rattle.odb_runinfo.proofs.laws.sets_are_legal.Goals as goal

pub returns : goal.returns
returns c = sets_assigned
