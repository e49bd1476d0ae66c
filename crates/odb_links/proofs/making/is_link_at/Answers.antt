use Rattle.odb_links.proofs.Following.{no_links}
use Rattle.odb_links.proofs.Stands.{free_there, free_without}
use Rattle.odb_links.proofs.making.is_link_at.Goals as goal

pub returns-then-is_empty : goal.returns-then-is_empty
returns-then-is_empty g c = free_without c.args.links.now (g.D.Database.rows c.args.tree.now) c.args.path.now (no_links c.args.links.now c.is_empty.result c.is_empty.ensures c.if-is_empty.true)

pub returns-in-Linked : goal.returns-in-Linked
returns-in-Linked g c = c.in-Linked.ensures

pub returns-in-Nothing : goal.returns-in-Nothing
returns-in-Nothing g c = free_there c.args.links.now (g.D.Database.rows c.args.tree.now) c.args.path.now c.stands_at.result c.requires.database.tree c.stands_at.ensures c.in-Nothing.is
