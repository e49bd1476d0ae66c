use Rattle.std.proofs.Common.{refl}
use Rattle.odb_tree.specs.declared.entry.DatabaseEntry.TheVariants.{Delete}
use Rattle.odb_lock.proofs.SharedLaws.{removal_step}
use Rattle.odb_lock.proofs.calls.DeleteCallLockedDatabase.make.Goals as goal

pub returns-clause-step : goal.returns-clause-step
returns-clause-step g c = λ number main. record {
  may = λ shapes. main;
  sound = c.names.ensures.is_path;
  step = removal_step c.args.value.now.database c.delete.new.self (Delete c.args.self.path.now c.delete.result) c.delete.ensures.reply c.delete.ensures.after c.delete.ensures.notes refl;
}
