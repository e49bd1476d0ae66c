use Rattle.std.proofs.Common.{Some, None, sym, subst, ◌∙◌}
use Rattle.odb_tree.specs.Trees.{IsTree}
use Rattle.odb_arena.proofs.Leading.{seek_refused, seek_found, no_some}
use Rattle.odb_arena.proofs.tree.ArenaTree.seek_down.Goals as goal

pub returns-in-Some-clause-refused : goal.returns-in-Some-clause-refused
returns-in-Some-clause-refused c =
    seek_refused c.args.self.now c.args.names.now c.parent-front.result.now c.reach-reached.result c.in-Some.refusal (subst IsTree c.self.view_is c.self.invariant.database.tree) c.parent-front.ensures
    c.reach-reached.ensures (sym c.in-Some.ensures)

pub returns-in-Some-row_under-clause-found : goal.returns-in-Some-row_under-clause-found
returns-in-Some-row_under-clause-found c =
    seek_found c.args.self.now c.args.names.now c.parent-front.result.now c.reach-reached.result c.index-names-names.result (Some c.in-Some-row_under.row.now)
    (subst IsTree c.self.view_is c.self.invariant.database.tree) c.requires c.parent-front.ensures c.index-names-names.is c.reach-reached.ensures
    (sym c.obstacle.ensures ∙ no_some c.obstacle.result c.in_default.not-Some) c.in-Some-row_under.ensures

pub returns-in-None-clause-refused : goal.returns-in-None-clause-refused
returns-in-None-clause-refused c =
    seek_found c.args.self.now c.args.names.now c.parent-front.result.now c.reach-reached.result c.index-names-names.result None
    (subst IsTree c.self.view_is c.self.invariant.database.tree) c.requires c.parent-front.ensures c.index-names-names.is c.reach-reached.ensures
    (sym c.obstacle.ensures ∙ no_some c.obstacle.result c.in_default.not-Some) c.in-None.ensures
