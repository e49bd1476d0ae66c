use Rattle.std.proofs.Common.{ℕ, List, None, length, ap, subst, ◌∙◌}
use Rattle.odb_tree.specs.Lookups.{parent_of}
use Rattle.odb_tree.specs.Trees.{IsTree}
use Rattle.odb_arena.specs.Reaching.{obstacle_met}
use Rattle.odb_arena.proofs.Leading.{obstacle_is}
use Rattle.odb_arena.proofs.tree.ArenaTree.obstacle.Goals as goal

pub returns : goal.returns
returns c =
    c.obstacle.ensures
    ∙ (ap (λ (f : List (List ℕ)). obstacle_met c.args.reached (length f) None) c.parent.ensures
    ∙ obstacle_is c.args.self.now (parent_of c.args.names.now) c.args.reached None (subst IsTree c.self.view_is c.self.invariant.database.tree) c.requires)
