use Rattle.std.proofs.Common.{refl}
use Rattle.std.proofs.lemmas.Bool.{false≢true}
use Rattle.odb_tree.specs.declared.entry.DatabaseEntry.TheVariants.{Find}
use Rattle.odb_journal.proofs.HistoryLaws.{noted_next}
use Rattle.odb_journal.proofs.local.LocalDatabase.find.Goals as goal

pub invariant_of-self : goal.invariant_of-self
invariant_of-self g c =
    noted_next _ _ c.args.caller (Find c.args.path c.find-reply.result) c.self.invariant (λ e. absurd (false≢true e)) c.names.ensures.is_path c.find-reply.ensures.reply refl c.push_reserved.ensures.items refl
