use Rattle.odb_runinfo.proofs.SetCalls.{sets_as, sets_at, sets_on}
use Rattle.odb_runinfo.proofs.paths.KeyPaths.set_stopping.Goals as goal

pub returns : goal.returns
returns g c =
    let paths = c.args.self.now in
    sets_on _ _ _ _ _ (sets_as _ _ _ _ _ _ paths.state_is c.state_item.ensures c.assign_at.ensures) (sets_at _ _ _ _ _ paths.stop_time_is c.assign_at-2.ensures)
