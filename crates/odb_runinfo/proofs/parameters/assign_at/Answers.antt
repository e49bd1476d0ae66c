use Rattle.odb_runinfo.proofs.SetCalls.{sets_one}
use Rattle.odb_runinfo.proofs.parameters.assign_at.Goals as goal

pub returns : goal.returns
returns g c = sets_one _ _ _ _ _ c.set_lent.ensures.called
