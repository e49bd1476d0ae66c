use Rattle.std.proofs.Common.{ℕ, List, ◌-◌, None, length, ap, subst, ◌∙◌}
use Rattle.odb_tree.specs.Lookups.{parent_of}
use Rattle.odb_tree.specs.Trees.{IsTree}
use Rattle.odb_arena.proofs.Leading.{obstacle_is, missing_is}
use Rattle.odb_arena.proofs.Chains.{unblocked}
use Rattle.odb_arena.proofs.tree.ArenaTree.count_missing.Goals as goal

pub returns-clause-count : goal.returns-clause-count
returns-clause-count c =
    let tree = subst IsTree c.self.view_is c.self.invariant.database.tree in
    ap (λ (f : List (List ℕ)). length f - c.args.reached.depth) c.parent.ensures
    ∙ missing_is c.args.self.now (parent_of c.args.names.now) c.args.reached tree c.requires.reached
    (λ l. unblocked c.args.reached (length (parent_of c.args.names.now)) (obstacle_is c.args.self.now (parent_of c.args.names.now) c.args.reached None tree c.requires.reached ∙ c.requires.clear) l)
