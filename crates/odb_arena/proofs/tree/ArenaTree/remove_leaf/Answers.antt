use Rattle.std.proofs.Common.{◌≡◌, ℕ, List, length, Some, None, sym, ap, ◌∙◌, arith}
use Rattle.std.specs.Option.{option_map, is_some}
use Rattle.odb_tree.specs.declared.rows.Row.{Row}
use Rattle.odb_tree.specs.Calls.{after_delete}
use Rattle.odb_arena.specs.declared.node.Node.{Node}
use Rattle.odb_arena.proofs.Growing.{some_is}
use Rattle.odb_arena.proofs.Steps.{cut, leaf_path, leaf_some, leaf_row, leaf_bytes, not_flip}
use Rattle.odb_arena.proofs.tree.ArenaTree.remove_leaf.Goals as goal

pub overflow_sub-name : goal.overflow_sub-name
overflow_sub-name c =
    let same : c.in-Some.names.now ≡ c.requires.row.path = some_is c.in-Some.names.now c.requires.row.path (c.in-Some.ensures.names ∙ leaf_path c.self.inside c.args.self.now c.args.number c.requires c.self.invariant c.self.view_is) in
    omega (arith, ap (λ (l : List (List ℕ)). length l) same, leaf_some c.self.inside c.args.self.now c.args.number c.requires c.self.invariant c.self.view_is)

pub bounds-names-names : goal.bounds-names-names
bounds-names-names c =
    let same : c.in-Some.names.now ≡ c.requires.row.path = some_is c.in-Some.names.now c.requires.row.path (c.in-Some.ensures.names ∙ leaf_path c.self.inside c.args.self.now c.args.number c.requires c.self.invariant c.self.view_is) in
    omega (arith, ap (λ (l : List (List ℕ)). length l) same, leaf_some c.self.inside c.args.self.now c.args.number c.requires c.self.invariant c.self.view_is)

pub returns-in_default-swap_remove : goal.returns-in_default-swap_remove
returns-in_default-swap_remove c = λ row there.
    let none : None ≡ Some c.requires.row =
    ap (option_map (λ (n : Node). n.row)) (sym c.in_default-swap_remove.is ∙ c.swap_remove.ensures.value) ∙ leaf_row c.self.inside c.args.self.now c.args.number c.requires c.self.invariant c.self.view_is in
    absurd (cc)

pub overflow_sub-self-2 : goal.overflow_sub-self-2
overflow_sub-self-2 c =
    leaf_bytes c.self.inside c.args.self.now c.args.number c.bytes_in.result c.requires c.in-Some-swap_remove.node c.self.invariant c.self.view_is c.in-Some-swap_remove.ensures.value c.bytes_in.ensures.bytes

pub invariant_of-self-2 : goal.invariant_of-self-2
invariant_of-self-2 c =
    (cut c.self.inside c.args.self.now c.args.number c.in-Some.names.now c.parent.result.now c.index-names-names.result c.reach-at.result c.in-Some-swap_remove.node c.swap_remove.new.self.entries
    c.leave_at.new.nodes.entries c.leave_at.new.root c.is_none.result c.bytes_in.result c.self.invariant c.self.view_is c.requires
    (some_is c.in-Some.names.now c.requires.row.path (c.in-Some.ensures.names ∙ leaf_path c.self.inside c.args.self.now c.args.number c.requires c.self.invariant c.self.view_is))
    c.parent.ensures c.index-names-names.is c.reach-at.ensures c.in-Some-swap_remove.ensures.value c.in-Some-swap_remove.ensures.updates.0 c.leave_at.ensures.rows c.leave_at.ensures.names
    (not_flip (is_some c.in-Some-swap_remove.node.row.value) c.is_none.result c.is_none.ensures) c.bytes_in.ensures.bytes).1

pub returns : goal.returns
returns c = λ row there.
    (cut c.self.inside c.args.self.now c.args.number c.in-Some.names.now c.parent.result.now c.index-names-names.result c.reach-at.result c.in-Some-swap_remove.node c.swap_remove.new.self.entries
    c.leave_at.new.nodes.entries c.leave_at.new.root c.is_none.result c.bytes_in.result c.self.invariant c.self.view_is c.requires
    (some_is c.in-Some.names.now c.requires.row.path (c.in-Some.ensures.names ∙ leaf_path c.self.inside c.args.self.now c.args.number c.requires c.self.invariant c.self.view_is))
    c.parent.ensures c.index-names-names.is c.reach-at.ensures c.in-Some-swap_remove.ensures.value c.in-Some-swap_remove.ensures.updates.0 c.leave_at.ensures.rows c.leave_at.ensures.names
    (not_flip (is_some c.in-Some-swap_remove.node.row.value) c.is_none.result c.is_none.ensures) c.bytes_in.ensures.bytes).0
    ∙ ap (λ (r : Row). after_delete c.args.self.now r.path) (some_is c.requires.row row (sym c.requires.there ∙ there))
