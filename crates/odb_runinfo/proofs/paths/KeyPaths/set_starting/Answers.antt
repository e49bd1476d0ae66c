use Rattle.std.proofs.Common.{sym}
use mir.Syntax.{w32}
use Rattle.std.proofs.lemmas.Int.{to_z_pos}
use Rattle.odb_runinfo.proofs.SetCalls.{sets_as, sets_at, sets_on}
use Rattle.odb_runinfo.proofs.paths.KeyPaths.set_starting.Goals as goal

pub returns : goal.returns
returns g c =
    let paths = c.args.self.now in
    rw (sym (to_z_pos w32 c.args.run c.requires)) (sets_on _ _ _ _ _ (sets_as _ _ _ _ _ _ paths.state_is c.state_item.ensures c.assign_at.ensures)
    (sets_on _ _ _ _ _ (sets_at _ _ _ _ _ paths.run_number_is c.assign_at-2.ensures)
    (sets_on _ _ _ _ _ (sets_at _ _ _ _ _ paths.start_time_is c.assign_at-3.ensures)
    (sets_at _ _ _ _ _ paths.stop_time_is c.assign_at-4.ensures))))
