use Rattle.std.proofs.Common.{refl}
use Rattle.odb_tree.specs.Calls.{rows_after}
use Rattle.odb_tree.specs.declared.entry.DatabaseEntry.TheVariants.{Resize}
use Rattle.odb_tree.specs.Rows.{Rows}
use Rattle.odb_watch.proofs.NotesKept.{noted_as}
use Rattle.odb_watch.proofs.watched.WatchesDatabase.resize.Goals as goal

pub invariant_of-self : goal.invariant_of-self
invariant_of-self g c = c.note_reply.ensures.few c.self.invariant

pub returns-clause-notes : goal.returns-clause-notes
returns-clause-notes g c =
    noted_as c.args.self.now (g.D.Database.rows c.self.inside.database) (g.D.Database.rows c.resize-reply.new.self) c.self.inside.slots.items c.note_reply.new.slots.items
    (λ (s : Rows). rows_after s (Resize c.args.path.now c.args.len c.resize-reply.result)) c.resize-reply.result _ 1 _ 1 c.self.view_is c.resize-reply.ensures.after c.saturating_sub.ensures refl c.note_reply.ensures.noted
