use Rattle.std.proofs.Common.{List, sym, ap, ◌∙◌, subst}
use Rattle.odb_links.specs.declared.links.Link.{Link}
use Rattle.odb_links.specs.Seen.{seen, AreLinks}
use Rattle.odb_links.proofs.Views.{begun_seen, begun_links}
use Rattle.odb_links.proofs.tree.LinkTree.new.Goals as goal

pub returns-clause-rows : goal.returns-clause-rows
returns-clause-rows g c = ap (λ (l : List Link). seen l (g.D.Database.rows c.args.tree)) c.new.ensures.items ∙ begun_seen (g.D.Database.rows c.args.tree)

pub invariant_of-result : goal.invariant_of-result
invariant_of-result g c = subst (λ (l : List Link). AreLinks l (g.D.Database.rows c.args.tree)) (sym c.new.ensures.items) (begun_links (g.D.Database.rows c.args.tree) c.requires c.find-root.ensures.database)
