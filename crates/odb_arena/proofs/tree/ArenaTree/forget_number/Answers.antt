use Rattle.std.proofs.Common.{◌≤◌, ◌-◌, sym, subst, ap, ◌∙◌}
use Rattle.odb_tree.specs.Rows.{Rows}
use Rattle.odb_tree.specs.Databases.{IsDatabase}
use Rattle.odb_arena.specs.Arena.{row_of, names_at}
use Rattle.odb_arena.proofs.Chains.{arena_forgets}
use Rattle.odb_arena.proofs.tree.ArenaTree.forget_number.Goals as goal

pub invariant_of-self : goal.invariant_of-self
invariant_of-self c =
    (arena_forgets (row_of c.self.inside.nodes.entries) (names_at c.self.inside.root c.self.inside.nodes.entries) c.self.inside.next c.self.inside.count c.self.inside.bytes c.self.invariant
    (subst (λ (s : Rows). 1 ≤ s.next) (sym c.self.view_is) c.requires.some)
    (subst (λ (s : Rows). IsDatabase (record s { next = s.next - 1 })) (sym c.self.view_is) c.requires.database)).1

pub returns : goal.returns
returns c =
    (arena_forgets (row_of c.self.inside.nodes.entries) (names_at c.self.inside.root c.self.inside.nodes.entries) c.self.inside.next c.self.inside.count c.self.inside.bytes c.self.invariant
    (subst (λ (s : Rows). 1 ≤ s.next) (sym c.self.view_is) c.requires.some)
    (subst (λ (s : Rows). IsDatabase (record s { next = s.next - 1 })) (sym c.self.view_is) c.requires.database)).0
    ∙ ap (λ (s : Rows). record s { next = s.next - 1 }) c.self.view_is
