use Rattle.std.proofs.Common.{sym, ap}
use Rattle.odb_tree.specs.Rows.{Rows}
use Rattle.odb_tree.specs.declared.entry.DatabaseEntry.TheVariants.{Get}
use Rattle.odb_tree.proofs.Led.{reply_unlinked}
use Rattle.odb_tree.proofs.plain.PlainTreeDatabase.get.Goals as goal

pub returns : goal.returns
returns c = reply_unlinked c.args.self.now (Get c.args.path.now c.get_there.result) (sym (ap (λ (s : Rows). s.links) c.self.view_is)) c.get_there.ensures
