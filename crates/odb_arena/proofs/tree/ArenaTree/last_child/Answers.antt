use Rattle.odb_arena.proofs.Leaves.{stands_in}
use Rattle.odb_arena.proofs.tree.ArenaTree.last_child.Goals as goal

pub returns : goal.returns
returns c = λ p there. stands_in c.self.inside c.args.self.now p c.args.at c.last_child_at.result c.self.invariant c.self.view_is there c.last_child_at.ensures
