use Rattle.std.proofs.Common.{◌++◌, ◌∷◌, [], ap, ◌∙◌}
use Rattle.std.specs.Option.{option_map}
use Rattle.odb_arena.specs.declared.node.Node.{Node}
use Rattle.odb_arena.proofs.Whole.{row_is}
use Rattle.odb_arena.proofs.tree.ArenaTree.row_under.Goals as goal

pub returns-in-Some-node_with : goal.returns-in-Some-node_with
returns-in-Some-node_with c = λ p there.
    ap (option_map (λ (n : Node). n.row)) c.in-Some-node_with.ensures.value
    ∙ row_is c.self.inside c.args.self.now (p ++ c.args.name.now ∷ []) c.in-Some.child.now c.self.invariant c.self.view_is (c.in-Some.ensures p there)

pub returns-in-None : goal.returns-in-None
returns-in-None c = λ p there.
    ap (option_map (λ (n : Node). n.row)) c.in-None.ensures.value
    ∙ row_is c.self.inside c.args.self.now (p ++ c.args.name.now ∷ []) c.in-Some.child.now c.self.invariant c.self.view_is (c.in-Some.ensures p there)
