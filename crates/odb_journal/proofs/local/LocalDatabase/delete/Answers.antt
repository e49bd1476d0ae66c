use Rattle.std.proofs.Common.{refl}
use Rattle.odb_tree.specs.declared.entry.DatabaseEntry.TheVariants.{Delete}
use Rattle.odb_journal.proofs.HistoryLaws.{noted_next}
use Rattle.odb_journal.proofs.local.LocalDatabase.delete.Goals as goal

pub invariant_of-self : goal.invariant_of-self
invariant_of-self g c =
    noted_next _ _ 0 (Delete c.args.path c.delete-reply.result) c.self.invariant (λ _. refl) c.names.ensures.is_path c.delete-reply.ensures.reply c.delete-reply.ensures.after c.push_reserved.ensures.items refl
