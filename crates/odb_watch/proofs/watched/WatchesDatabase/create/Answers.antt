use Rattle.std.proofs.Common.{sym, ap, ◌∙◌}
use Rattle.odb_tree.specs.declared.rows.NewKey.{NewKey}
use Rattle.odb_tree.specs.declared.entry.DatabaseEntry.TheVariants.{Create}
use Rattle.odb_tree.specs.Noting.{changes_of, Watched, all_noted}
use Rattle.odb_tree.proofs.Noted.{none_noted}
use Rattle.odb_watch.proofs.watched.WatchesDatabase.create.Goals as goal

pub returns-in-Dir-clause-notes : goal.returns-in-Dir-clause-notes
returns-in-Dir-clause-notes g c =
    let s : Watched = c.args.self.now in
    ap (λ (w : Watched). w.slots) c.self.view_is
    ∙ (sym (none_noted s.slots) ∙ ap (λ (kind : NewKey). all_noted (changes_of s.rows (Create c.args.path.now kind c.create-reply.result)) s.slots) (sym c.in-Dir.is))

pub invariant_of-self-in-Keys : goal.invariant_of-self-in-Keys
invariant_of-self-in-Keys g c = c.note_reply.ensures.few c.self.invariant
