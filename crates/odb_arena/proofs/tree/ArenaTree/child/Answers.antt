use Rattle.std.proofs.Common.{◌≡◌, ◌++◌, ◌∷◌, [], Some, sym, subst, ap, ◌∙◌}
use Rattle.std.specs.Option.{option_map}
use Rattle.odb_tree.specs.Rows.{Rows, row_at}
use Rattle.odb_tree.specs.Calls.{path_with, child_of}
use Rattle.odb_arena.specs.Arena.{row_of, names_at}
use Rattle.odb_arena.proofs.Whole.{child_is}
use Rattle.odb_arena.proofs.tree.ArenaTree.child.Goals as goal

pub returns : goal.returns
returns c = λ p there.
    let t = c.self.inside in
    c.child_at.ensures
    ∙ (child_is (row_of t.nodes.entries) (names_at t.root t.nodes.entries) t.next t.count t.bytes c.args.at p c.args.name.now c.self.invariant c.as_slice.ensures.is_name
    (subst (λ (s : Rows). path_with s.rows c.args.at ≡ Some p) (sym c.self.view_is) there)
    ∙ ap (λ (s : Rows). option_map child_of (row_at s.rows (p ++ c.args.name.now ∷ []))) c.self.view_is)
