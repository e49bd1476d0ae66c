use Rattle.std.proofs.Common.{ℕ, List, [], ◌∙◌, sym, ap}
use Rattle.odb_tree.specs.Rows.{Rows}
use Rattle.odb_tree.specs.Links.{numbers_along}
use Rattle.odb_links.specs.Places.{hit_among}
use Rattle.odb_links.proofs.LinkPlaces.{order_wide}
use Rattle.odb_links.proofs.Following.{none_seen, no_links, first_is, walked, walked_within, as_hit}
use Rattle.odb_links.proofs.leading.first_hit.Goals as goal

pub returns-then-is_empty-clause-first : goal.returns-then-is_empty-clause-first
returns-then-is_empty-clause-first g c =
    none_seen c.args.links.now (g.D.Database.rows c.args.tree.now) c.args.last c.args.path.now c.requires (no_links c.args.links.now c.is_empty.result c.is_empty.ensures c.if-is_empty.true)

pub hit_among-requires-clause-order : goal.hit_among-requires-clause-order
hit_among-requires-clause-order g c = order_wide c.args.links.now _ c.requires.order c.requires.database.within.next

pub hit_among-requires-clause-within : goal.hit_among-requires-clause-within
hit_among-requires-clause-within g c =
    walked_within (g.D.Database.rows c.args.tree.now).rows c.args.path.now c.names.result.now c.walk-count.result c.walk-count.new.numbers _ c.walk-count.ensures.count c.walk-count.ensures.numbers c.names.ensures.names

pub returns-clause-first : goal.returns-clause-first
returns-clause-first g c =
    let s : Rows = g.D.Database.rows c.args.tree.now in
    as_hit c.hit_among.result _ _ c.args.path.now c.names.result.now
    (ap (λ (ns : List ℕ). hit_among c.args.links.now c.args.last ns c.names.result.now) (walked s.rows c.args.path.now c.walk-count.result c.walk-count.new.numbers _ c.walk-count.ensures.count c.walk-count.ensures.numbers)
    ∙ (ap (hit_among c.args.links.now c.args.last (numbers_along s.rows [] c.args.path.now)) c.names.ensures.names ∙ sym (first_is c.args.links.now s c.args.last [] c.args.path.now c.requires)))
    c.names.ensures.names c.hit_among.ensures.first
