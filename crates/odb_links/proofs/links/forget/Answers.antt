use Rattle.std.proofs.Common.{rules, tests}
use Rattle.std.proofs.lemmas.Fn.{filter_same}
use Rattle.odb_tree.specs.Calls.{is_row_below}
use Rattle.odb_links.specs.declared.links.Link.{Link}
use Rattle.odb_links.proofs.links.forget.Goals as goal

pub returns : goal.returns
returns g c =
    filter_same _ (λ (l : Link). is_row_below (g.D.Database.rows c.args.tree.now) l.row 0) _ (λ x b q k. search (rules, tests)) c.args.links.now.items c.retain.new.self.items c.retain.ensures.filtered
