use Rattle.std.proofs.Common.{ℕ, List, [], ◌++◌, length, drop, sym, ap, ◌∙◌}
use Rattle.odb_tree.specs.Links.{numbers_along}
use Rattle.odb_tree.specs.Noting.{Watched}
use Rattle.odb_links.specs.Seen.{as_seen}
use Rattle.odb_links.proofs.Retyped.{numbers_mapped}
use Rattle.odb_links.proofs.Marked.{seen_retypes}
use Rattle.odb_links.proofs.tree.LinkTreeDatabase.walk.Goals as goal

pub returns-clause-count : goal.returns-clause-count
returns-clause-count g c =
    let links = c.self.inside.links.items in
    c.walk.ensures.count ∙ (ap (λ (l : List ℕ). length l) (sym (numbers_mapped (as_seen links) (seen_retypes links) (g.D.Database.rows c.self.inside.tree).rows [] c.args.path.now))
    ∙ ap (λ (w : Watched). length (numbers_along w.rows.rows [] c.args.path.now)) c.self.view_is)

pub returns-clause-numbers : goal.returns-clause-numbers
returns-clause-numbers g c =
    let links = c.self.inside.links.items in
    c.walk.ensures.numbers ∙ (ap (λ (l : List ℕ). l ++ drop c.walk.result c.args.numbers.now) (sym (numbers_mapped (as_seen links) (seen_retypes links) (g.D.Database.rows c.self.inside.tree).rows [] c.args.path.now))
    ∙ ap (λ (w : Watched). numbers_along w.rows.rows [] c.args.path.now ++ drop c.walk.result c.args.numbers.now) c.self.view_is)
