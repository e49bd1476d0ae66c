use Rattle.std.proofs.Common.{sym, ap, ◌∙◌}
use Rattle.odb_tree.specs.Calls.{is_row_below}
use Rattle.odb_tree.specs.Noting.{Watched}
use Rattle.odb_links.proofs.Replies.{below_same}
use Rattle.odb_links.proofs.tree.LinkTreeDatabase.is_below.Goals as goal

pub returns : goal.returns
returns g c =
    c.is_below.ensures ∙ (sym (below_same c.self.inside.links.items (g.D.Database.rows c.self.inside.tree) c.args.row c.args.above) ∙ ap (λ (w : Watched). is_row_below w.rows c.args.row c.args.above) c.self.view_is)
