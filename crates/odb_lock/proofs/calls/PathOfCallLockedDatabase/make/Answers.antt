use Rattle.std.proofs.Common.{◌≡◌, true, false, refl}
use Rattle.odb_tree.specs.declared.entry.DatabaseEntry.TheVariants.{PathOf}
use Rattle.odb_lock.proofs.SharedLaws.{look_step}
use Rattle.odb_lock.proofs.calls.PathOfCallLockedDatabase.make.Goals as goal

pub returns-clause-step : goal.returns-clause-step
returns-clause-step g c = λ number may. record {
  may = λ (shapes : false ≡ true). absurd (cc);
  sound = tt;
  step = look_step c.args.value.now.database (PathOf c.args.self.row c.path_of.result) c.path_of.ensures refl refl;
}
