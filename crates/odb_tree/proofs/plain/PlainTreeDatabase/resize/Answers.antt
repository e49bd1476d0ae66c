use Rattle.std.proofs.Common.{sym, ap, ◌∙◌}
use Rattle.odb_tree.specs.Rows.{Rows}
use Rattle.odb_tree.specs.declared.entry.DatabaseEntry.TheVariants.{Resize}
use Rattle.odb_tree.proofs.Led.{reply_unlinked, after_unlinked}
use Rattle.odb_tree.proofs.plain.PlainTreeDatabase.resize.Goals as goal

pub returns-clause-reply : goal.returns-clause-reply
returns-clause-reply c = reply_unlinked c.args.self.now (Resize c.args.path.now c.args.len c.resize_there.result) (sym (ap (λ (s : Rows). s.links) c.self.view_is)) c.resize_there.ensures.reply

pub returns-clause-after : goal.returns-clause-after
returns-clause-after c = c.resize_there.ensures.after ∙ sym (after_unlinked c.args.self.now (Resize c.args.path.now c.args.len c.resize_there.result) (sym (ap (λ (s : Rows). s.links) c.self.view_is)))
