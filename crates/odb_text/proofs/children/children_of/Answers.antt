use Rattle.odb_text.proofs.Parts.{listed_stands, listed_children}
use Rattle.odb_text.proofs.Unled.{listed_there}
use Rattle.odb_text.proofs.children.children_of.Goals as goal

pub returns-in-Ok-clause-children : goal.returns-in-Ok-clause-children
returns-in-Ok-clause-children g c =
    let s = g.D.Database.rows c.args.database.now in
    listed_children s c.args.path.now c.in-Ok.children (listed_there s c.args.path.now c.in-Ok.children c.in-Ok.ensures.database.tree c.requires c.in-Ok.ensures.reply)

pub returns-in-Ok-clause-stand : goal.returns-in-Ok-clause-stand
returns-in-Ok-clause-stand g c =
    let s = g.D.Database.rows c.args.database.now in
    listed_stands s c.args.path.now c.in-Ok.children c.in-Ok.ensures.database c.requires (listed_there s c.args.path.now c.in-Ok.children c.in-Ok.ensures.database.tree c.requires c.in-Ok.ensures.reply)
