use Rattle.std.proofs.Common.{length, refl, ap}
use Rattle.odb_tree.specs.Calls.{rows_after}
use Rattle.odb_tree.specs.declared.entry.DatabaseEntry.TheVariants.{SetAll}
use Rattle.odb_tree.specs.Rows.{Rows}
use Rattle.odb_watch.proofs.NotesKept.{noted_as}
use Rattle.odb_watch.proofs.watched.WatchesDatabase.set_all.Goals as goal

pub invariant_of-self : goal.invariant_of-self
invariant_of-self g c = c.note_reply.ensures.few c.self.invariant

pub returns-clause-notes : goal.returns-clause-notes
returns-clause-notes g c =
    noted_as c.args.self.now (g.D.Database.rows c.self.inside.database) (g.D.Database.rows c.set_all-reply.new.self) c.self.inside.slots.items c.note_reply.new.slots.items
    (λ (s : Rows). rows_after s (SetAll c.args.path.now c.args.value.now c.set_all-reply.result)) c.set_all-reply.result 0 (length c.items.result.now) 0 (length c.args.value.now.items) c.self.view_is c.set_all-reply.ensures.after refl
    (ap (λ items. length items) c.items.ensures.items) c.note_reply.ensures.noted
