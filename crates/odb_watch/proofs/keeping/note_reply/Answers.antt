use Rattle.odb_tree.specs.Noting.{changes_from}
use Rattle.odb_watch.proofs.Few.{few_noted}
use Rattle.odb_watch.proofs.NotesKept.{refused_notes}
use Rattle.odb_watch.proofs.keeping.note_reply.Goals as goal

pub returns-in_default-clause-noted : goal.returns-in_default-clause-noted
returns-in_default-clause-noted g c = refused_notes (g.D.Database.rows c.args.database.now) c.args.reply c.args.first c.args.count c.args.slots.now.items c.in_default.not-Ok

pub returns-in-Ok-clause-few : goal.returns-in-Ok-clause-few
returns-in-Ok-clause-few g c = few_noted _ _ (changes_from (g.D.Database.rows c.args.database.now) c.in-Ok.row c.args.first c.args.count) c.note_items.ensures
