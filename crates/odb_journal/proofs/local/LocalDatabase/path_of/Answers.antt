use Rattle.std.proofs.Common.{refl, Ok, Err}
use Rattle.std.proofs.lemmas.Bool.{false≢true}
use Rattle.odb_tree.specs.declared.entry.DatabaseEntry.TheVariants.{PathOf}
use Rattle.odb_journal.proofs.HistoryLaws.{noted_next}
use Rattle.odb_journal.proofs.local.LocalDatabase.path_of.Goals as goal

pub invariant_of-self : goal.invariant_of-self
invariant_of-self g c =
    noted_next _ _ c.args.caller (PathOf c.args.row (Ok c.in-Ok.copy)) c.self.invariant (λ e. absurd (false≢true e)) tt (rw c.in-Ok.ensures.same c.in-Ok.ensures.path) refl c.push_reserved.ensures.items refl

pub invariant_of-self-in-Err : goal.invariant_of-self-in-Err
invariant_of-self-in-Err g c =
    noted_next _ _ c.args.caller (PathOf c.args.row (Err c.in-Err.memory)) c.self.invariant (λ e. absurd (false≢true e)) tt c.in-Err.ensures.memory refl c.push_reserved-in-Err.ensures.items refl
