use Rattle.std.proofs.Common.{◌≡◌, true, false, refl}
use Rattle.odb_tree.specs.declared.entry.DatabaseEntry.TheVariants.{Find}
use Rattle.odb_lock.proofs.SharedLaws.{look_step}
use Rattle.odb_lock.proofs.calls.FindCallLockedDatabase.make.Goals as goal

pub returns-clause-step : goal.returns-clause-step
returns-clause-step g c = λ number may. record {
  may = λ (shapes : false ≡ true). absurd (cc);
  sound = c.names.ensures.is_path;
  step = look_step c.args.value.now.database (Find c.args.self.path.now c.find.result) c.find.ensures.reply refl refl;
}
