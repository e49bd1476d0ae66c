use Rattle.std.proofs.Common.{sym, ap}
use Rattle.odb_tree.specs.Rows.{Rows}
use Rattle.odb_tree.specs.declared.entry.DatabaseEntry.TheVariants.{Find}
use Rattle.odb_tree.proofs.Led.{reply_unlinked}
use Rattle.odb_tree.proofs.plain.PlainTreeDatabase.find.Goals as goal

pub returns-clause-reply : goal.returns-clause-reply
returns-clause-reply c = reply_unlinked c.args.self.now (Find c.args.path.now c.find_there.result) (sym (ap (λ (s : Rows). s.links) c.self.view_is)) c.find_there.ensures.reply
