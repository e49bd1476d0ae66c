use Rattle.std.proofs.Common.{refl}
use Rattle.odb_tree.specs.declared.entry.DatabaseEntry.TheVariants.{SetAll}
use Rattle.odb_journal.proofs.HistoryLaws.{noted_next}
use Rattle.odb_journal.proofs.local.LocalDatabase.set_all.Goals as goal

pub invariant_of-self : goal.invariant_of-self
invariant_of-self g c =
    noted_next _ _ 0 (SetAll c.args.path c.args.value c.set_all-reply.result) c.self.invariant (λ _. refl) (c.names.ensures.is_path, c.tid.ensures.held) c.set_all-reply.ensures.reply c.set_all-reply.ensures.after c.push_reserved.ensures.items refl
