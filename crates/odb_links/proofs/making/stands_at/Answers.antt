use Rattle.std.proofs.Common.{Ok, Err, ◌∙◌, sym, ap}
use Rattle.std.specs.Option.{option_copied}
use Rattle.odb_links.specs.Seen.{link_numbered}
use Rattle.odb_links.proofs.LinkPlaces.{order_wide}
use Rattle.odb_links.proofs.Above.{not_found_there}
use Rattle.odb_links.proofs.SeenCalls.{find_below}
use Rattle.odb_links.proofs.Stands.{target_some, target_none, stands_linked, stands_other}
use Rattle.odb_links.proofs.making.stands_at.Goals as goal

pub target_of-requires : goal.target_of-requires
target_of-requires g c = order_wide c.args.links.now _ c.requires.order c.requires.database.within.next

pub returns-in-Err : goal.returns-in-Err
returns-in-Err g c =
    not_found_there (g.D.Database.rows c.args.tree.now) c.args.path.now c.in-Err.field-0 c.requires.database.tree
    (find_below (g.D.Database.rows c.args.tree.now) c.args.path.now (Err c.in-Err.field-0) c.requires.plain c.in-Err.ensures.reply)

pub returns-in-Some : goal.returns-in-Some
returns-in-Some g c =
    stands_linked c.args.links.now (g.D.Database.rows c.args.tree.now) c.args.path.now c.in-Ok.row c.requires
    (find_below (g.D.Database.rows c.args.tree.now) c.args.path.now (Ok c.in-Ok.row) c.requires.plain c.in-Ok.ensures.reply)
    (target_some (link_numbered c.args.links.now c.in-Ok.row) c.in-Some.field-0.now (sym (ap option_copied c.in-Some.is) ∙ c.target_of.ensures))

pub returns-in-None : goal.returns-in-None
returns-in-None g c =
    stands_other c.args.links.now (g.D.Database.rows c.args.tree.now) c.args.path.now c.in-Ok.row
    (find_below (g.D.Database.rows c.args.tree.now) c.args.path.now (Ok c.in-Ok.row) c.requires.plain c.in-Ok.ensures.reply)
    (target_none (link_numbered c.args.links.now c.in-Ok.row) (sym (ap option_copied c.in-None.is) ∙ c.target_of.ensures))
