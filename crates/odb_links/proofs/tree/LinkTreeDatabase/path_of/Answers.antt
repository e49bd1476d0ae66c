use Rattle.std.proofs.Common.{List, ℕ, Option, sym, subst}
use Rattle.odb_tree.specs.Calls.{GivesPath, path_with}
use Rattle.odb_tree.specs.Noting.{Watched}
use Rattle.odb_links.proofs.Replies.{path_same}
use Rattle.odb_links.proofs.tree.LinkTreeDatabase.path_of.Goals as goal

pub returns : goal.returns
returns g c =
    subst (λ (w : Watched). GivesPath c.path_of.result (path_with w.rows.rows c.args.row)) c.self.view_is
    (subst (λ (p : Option (List (List ℕ))). GivesPath c.path_of.result p) (sym (path_same c.self.inside.links.items (g.D.Database.rows c.self.inside.tree) c.args.row)) c.path_of.ensures)
