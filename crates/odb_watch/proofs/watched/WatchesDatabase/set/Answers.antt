use Rattle.std.proofs.Common.{refl, ap, subst}
use Rattle.odb_tree.specs.Calls.{rows_after, IsRowsReply}
use Rattle.odb_tree.specs.declared.entry.DatabaseEntry.TheVariants.{Set}
use Rattle.odb_tree.specs.Rows.{Rows}
use Rattle.odb_watch.proofs.NotesKept.{noted_as}
use Rattle.odb_tree.specs.Noting.{Watched}
use Rattle.odb_watch.proofs.watched.WatchesDatabase.set.Goals as goal

pub invariant_of-self : goal.invariant_of-self
invariant_of-self g c = c.note_reply.ensures.few c.self.invariant

pub returns-clause-reply : goal.returns-clause-reply
returns-clause-reply g c =
    subst (λ (s : Rows). IsRowsReply s (Set c.args.path.now c.args.index c.args.item.now c.set-reply.result)) (ap (λ (w : Watched). w.rows) c.self.view_is) c.set-reply.ensures.reply

pub returns-clause-notes : goal.returns-clause-notes
returns-clause-notes g c =
    noted_as c.args.self.now (g.D.Database.rows c.self.inside.database) (g.D.Database.rows c.set-reply.new.self) c.self.inside.slots.items c.note_reply.new.slots.items
    (λ (s : Rows). rows_after s (Set c.args.path.now c.args.index c.args.item.now c.set-reply.result)) c.set-reply.result c.args.index 1 c.args.index 1 c.self.view_is c.set-reply.ensures.after refl refl c.note_reply.ensures.noted
