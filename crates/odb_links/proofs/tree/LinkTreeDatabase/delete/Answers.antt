use Rattle.std.proofs.Common.{List, Err, sym, ap, ◌∙◌, subst}
use Rattle.std.proofs.lemmas.Result.{err_from_is_err_and}
use Rattle.odb_tree.specs.declared.refusals.OdbRefusal.{OdbRefusal}
use Rattle.odb_tree.specs.Calls.{after_delete, delete_reply}
use Rattle.odb_tree.specs.Noting.{Watched}
use Rattle.odb_links.specs.declared.links.Link.{Link}
use Rattle.odb_links.specs.Seen.{seen, AreLinks}
use Rattle.odb_links.proofs.Replies.{delete_same}
use Rattle.odb_links.proofs.Views.{links_left}
use Rattle.odb_links.proofs.tree.LinkTreeDatabase.delete.Goals as goal

pub returns-in_err-gone-clause-reply : goal.returns-in_err-gone-clause-reply
returns-in_err-gone-clause-reply g c =
    let told = err_from_is_err_and c.from_residual.result c.from_residual.ensures.1 in
    told.1 ∙ (ap (λ (x : OdbRefusal). Err x) told.2 ∙ (c.in_err-gone.ensures.reply ∙ (sym (delete_same c.self.inside.links.items (g.D.Database.rows c.self.inside.tree) c.args.path.now)
    ∙ ap (λ (w : Watched). delete_reply w.rows c.args.path.now) c.self.view_is)))

pub returns-clause-reply : goal.returns-clause-reply
returns-clause-reply g c =
    c.in_ok-gone.ensures.reply ∙ (sym (delete_same c.self.inside.links.items (g.D.Database.rows c.self.inside.tree) c.args.path.now) ∙ ap (λ (w : Watched). delete_reply w.rows c.args.path.now) c.self.view_is)

pub returns-clause-after : goal.returns-clause-after
returns-clause-after g c =
    let left = links_left c.self.inside.links.items (g.D.Database.rows c.self.inside.tree) (g.D.Database.rows c.delete.new.self) c.args.path.now c.in_ok-gone.gone c.self.invariant c.names.ensures.is_path c.in_ok-gone.ensures.reply
    c.in_ok-gone.ensures.after in
    ap (λ (l : List Link). seen l (g.D.Database.rows c.delete.new.self)) c.forget.ensures ∙ (left.after ∙ ap (λ (w : Watched). after_delete w.rows c.args.path.now) c.self.view_is)

pub invariant_of-self-2 : goal.invariant_of-self-2
invariant_of-self-2 g c =
    let left = links_left c.self.inside.links.items (g.D.Database.rows c.self.inside.tree) (g.D.Database.rows c.delete.new.self) c.args.path.now c.in_ok-gone.gone c.self.invariant c.names.ensures.is_path c.in_ok-gone.ensures.reply
    c.in_ok-gone.ensures.after in
    subst (λ (l : List Link). AreLinks l (g.D.Database.rows c.delete.new.self)) (sym c.forget.ensures) left.links_kept
