use Rattle.std.proofs.Common.{sym, ◌∙◌}
use Rattle.odb_arena.proofs.Steps.{seek_again}
use Rattle.odb_arena.proofs.tree.ArenaTree.found_again.Goals as goal

pub returns-then-is_spelled : goal.returns-then-is_spelled
returns-then-is_spelled c =
    seek_again c.self.inside c.args.self.now c.get.result c.in-Some.node.now c.args.names.now c.self.invariant c.self.view_is c.in-Some.ensures.value
    (sym c.names.ensures.names ∙ c.is_spelled.ensures.0 c.if-is_spelled.true)
