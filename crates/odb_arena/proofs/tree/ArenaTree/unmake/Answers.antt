use Rattle.std.proofs.Common.{subst}
use Rattle.odb_tree.specs.Trees.{IsTree}
use Rattle.odb_arena.proofs.Chains.{last_leaf, last_there, last_taken, taken_before, taken_next}
use Rattle.odb_arena.proofs.tree.ArenaTree.unmake.Goals as goal

pub remove_leaf-requires : goal.remove_leaf-requires
remove_leaf-requires c = last_leaf c.args.self.now c.args.number c.requires (subst IsTree c.self.view_is c.self.invariant.database.tree)

pub forget_number-requires-clause-some : goal.forget_number-requires-clause-some
forget_number-requires-clause-some c =
    taken_next c.args.self.now c.remove_leaf.new.self c.args.number c.requires
    (c.remove_leaf.ensures c.requires.row (last_there c.args.self.now c.args.number c.requires (subst IsTree c.self.view_is c.self.invariant.database.tree)))

pub forget_number-requires-clause-database : goal.forget_number-requires-clause-database
forget_number-requires-clause-database c =
    let tree = subst IsTree c.self.view_is c.self.invariant.database.tree in
    taken_before c.args.self.now c.remove_leaf.new.self c.args.number c.requires tree (c.remove_leaf.ensures c.requires.row (last_there c.args.self.now c.args.number c.requires tree))

pub returns : goal.returns
returns c =
    let tree = subst IsTree c.self.view_is c.self.invariant.database.tree in
    last_taken c.args.self.now c.remove_leaf.new.self c.forget_number.new.self c.args.number c.requires tree (c.remove_leaf.ensures c.requires.row (last_there c.args.self.now c.args.number c.requires tree))
    c.forget_number.ensures
