use Rattle.std.proofs.Common.{◌≡◌, false, eqb, Some, None, ap, ◌∙◌, arith, List, ℕ}
use Rattle.std.proofs.lemmas.Bool.Decides.{nat_tests}
use Rattle.odb_arena.proofs.Steps.{path_of_node}
use Rattle.odb_arena.proofs.tree.ArenaTree.path_with.Goals as goal

pub returns-in-Some-clause-names : goal.returns-in-Some-clause-names
returns-in-Some-clause-names c =
    let some : eqb c.args.number 0 ≡ false = grind (arith, nat_tests, c.if-number-eq0.false) in
    ap (λ (p : List (List ℕ)). Some p) c.names.ensures.names
    ∙ path_of_node c.self.inside c.args.self.now c.args.number (Some c.in-Some.node.now) c.self.invariant c.self.view_is some c.in-Some.ensures.value

pub returns-in-None-clause-names : goal.returns-in-None-clause-names
returns-in-None-clause-names c =
    let some : eqb c.args.number 0 ≡ false = grind (arith, nat_tests, c.if-number-eq0.false) in
    path_of_node c.self.inside c.args.self.now c.args.number None c.self.invariant c.self.view_is some c.in-None.ensures.value
