use Rattle.std.proofs.Common.{◌-◌, length, take, drop, subst, refl, ◌∙◌, arith}
use Rattle.odb_tree.specs.Lookups.{parent_of}
use Rattle.odb_tree.specs.Trees.{IsTree}
use Rattle.odb_arena.proofs.Chains.{make_grows, make_makes, rest_is, if_ok_weaker, on_ok_weaker}
use Rattle.odb_arena.proofs.tree.ArenaTree.make.Goals as goal

pub make_from-requires : goal.make_from-requires
make_from-requires c =
    make_grows c.args.self.now c.args.names.now (parent_of c.args.names.now) _ c.args.reached c.args.value (subst IsTree c.self.view_is c.self.invariant.database.tree) refl
    (rest_is c.args.names.now c.args.reached.depth) c.requires.can c.requires.reached

pub returns-clause-number : goal.returns-clause-number
returns-clause-number c =
    let made = make_makes c.args.self.now c.args.names.now (parent_of c.args.names.now) (take (length c.args.names.now - c.args.reached.depth) (drop c.args.reached.depth c.args.names.now)) c.args.reached c.args.value
    (subst IsTree c.self.view_is c.self.invariant.database.tree) refl (rest_is c.args.names.now c.args.reached.depth) c.requires.can c.requires.reached in
    if_ok_weaker c.make_from.result _ _ (λ n e. omega (arith, e, made.1)) c.make_from.ensures.number

pub returns-clause-ok : goal.returns-clause-ok
returns-clause-ok c =
    let made = make_makes c.args.self.now c.args.names.now (parent_of c.args.names.now) (take (length c.args.names.now - c.args.reached.depth) (drop c.args.reached.depth c.args.names.now)) c.args.reached c.args.value
    (subst IsTree c.self.view_is c.self.invariant.database.tree) refl (rest_is c.args.names.now c.args.reached.depth) c.requires.can c.requires.reached in
    on_ok_weaker c.make_from.result _ _ (λ e. e ∙ made.0) c.make_from.ensures.ok
