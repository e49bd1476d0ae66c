use Rattle.std.proofs.Common.{sym, ap, subst, Result, ℕ}
use Rattle.odb_value.specs.LinkValues.{is_link_type}
use Rattle.odb_tree.specs.declared.refusals.OdbRefusal.{OdbRefusal}
use Rattle.odb_tree.specs.Rows.{Rows}
use Rattle.odb_tree.specs.Calls.{Gives, put_reply}
use Rattle.odb_tree.proofs.Led.{put_unlinked, taking}
use Rattle.odb_tree.proofs.plain.PlainTreeDatabase.put.Goals as goal

pub returns-clause-reply : goal.returns-clause-reply
returns-clause-reply c =
    taking (is_link_type c.args.value.now.tid) c.set_all_there.result (put_reply c.args.self.now c.args.path.now c.args.value.now)
    (subst (λ (r : Result ℕ OdbRefusal). Gives c.set_all_there.result r)
    (sym (put_unlinked c.args.self.now c.args.path.now c.args.value.now (sym (ap (λ (s : Rows). s.links) c.self.view_is)))) c.set_all_there.ensures.reply)
