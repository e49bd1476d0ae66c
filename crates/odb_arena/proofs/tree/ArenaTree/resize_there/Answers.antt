use Rattle.std.proofs.Common.{ℕ, List, refl, sym, subst, ap, ◌∙◌}
use Rattle.odb_value.specs.Paths.{IsPath}
use Rattle.odb_value.specs.Values.{HeldValue}
use Rattle.odb_value.specs.ValueChanges.{resized}
use Rattle.odb_tree.specs.Rows.{Rows, change_at}
use Rattle.odb_tree.specs.Databases.{IsDatabase}
use Rattle.odb_tree.specs.Calls.{after_resize}
use Rattle.odb_tree.proofs.Sound.{database_resized}
use Rattle.odb_arena.specs.Arena.{row_of, names_at}
use Rattle.odb_arena.proofs.Keys.{key_row, key_at, key_bytes, node_can_resize}
use Rattle.odb_arena.proofs.Steps.{arena_same}
use Rattle.odb_arena.proofs.Altering.{altered, unaltered}
use Rattle.odb_arena.proofs.tree.ArenaTree.resize_there.Goals as goal

pub resize_fault-requires : goal.resize_fault-requires
resize_fault-requires c = key_at c.args.self.now.rows c.names-names.result.now c.in_ok-key.key.number c.in_ok-key.key.value.now (key_row c.args.self.now.rows c.names-names.result.now c.in_ok-key.key.number c.in_ok-key.key.value.now c.in_ok-key.ensures.found)

pub resize_in-requires-clause-kept : goal.resize_in-requires-clause-kept
resize_in-requires-clause-kept c =
    node_can_resize c.self.inside c.args.self.now c.names-names.result.now c.in_ok-key.key.number c.in_ok-key.key.value.now c.self.invariant c.self.view_is
    (key_row c.args.self.now.rows c.names-names.result.now c.in_ok-key.key.number c.in_ok-key.key.value.now c.in_ok-key.ensures.found)

pub invariant_of-self : goal.invariant_of-self
invariant_of-self c =
    (arena_same (row_of c.self.inside.nodes.entries) (row_of c.resize_in.new.nodes.entries) (names_at c.self.inside.root c.self.inside.nodes.entries) (names_at c.self.inside.root c.resize_in.new.nodes.entries)
    c.self.inside.next c.self.inside.count c.self.inside.bytes c.self.invariant
    (unaltered c.in_ok-key.key.number c.self.inside.nodes.entries c.resize_in.new.nodes.entries c.in_err-resize_in.ensures.err) (c.in_err-resize_in.ensures.err.names c.self.inside.root)).1

pub overflow_sub-self : goal.overflow_sub-self
overflow_sub-self c =
    key_bytes c.self.inside c.args.self.now c.names-names.result.now c.in_ok-key.key.number c.in_ok-key.key.value.now c.bytes_of-had.result c.self.invariant c.self.view_is
    (key_row c.args.self.now.rows c.names-names.result.now c.in_ok-key.key.number c.in_ok-key.key.value.now c.in_ok-key.ensures.found) c.bytes_of-had.ensures.value

pub invariant_of-self-2 : goal.invariant_of-self-2
invariant_of-self-2 c =
    let key = key_row c.args.self.now.rows c.names-names.result.now c.in_ok-key.key.number c.in_ok-key.key.value.now c.in_ok-key.ensures.found in
    (altered c.self.inside c.args.self.now c.names-names.result.now (λ (v : HeldValue). resized v c.args.len) c.in_ok-key.key.number c.bytes_of-had.result c.bytes_at.result c.in_ok-key.key.value.now key.row
    c.resize_in.new.nodes.entries c.self.invariant c.self.view_is key.there key.value key.number
    (database_resized c.args.self.now c.names-names.result.now c.args.len c.in_ok-key.key.number c.in_ok-key.key.value.now c.resize_fault.result
    (change_at c.args.self.now.rows c.names-names.result.now (λ (v : HeldValue). resized v c.args.len))
    (sym (ap (λ (s : Rows). s.links) c.self.view_is)) (subst IsDatabase c.self.view_is c.self.invariant.database) (subst IsPath (sym c.names-names.ensures.names) c.names-names.ensures.is_path) c.in_ok-key.ensures.found
    c.resize_fault.ensures c.in_default.is refl)
    c.in_ok-resize_in.ensures.ok.rows c.in_ok-resize_in.ensures.ok.names c.bytes_of-had.ensures.value c.bytes_at.ensures.bytes).1

pub returns-clause-after : goal.returns-clause-after
returns-clause-after c =
    let key = key_row c.args.self.now.rows c.names-names.result.now c.in_ok-key.key.number c.in_ok-key.key.value.now c.in_ok-key.ensures.found in
    (altered c.self.inside c.args.self.now c.names-names.result.now (λ (v : HeldValue). resized v c.args.len) c.in_ok-key.key.number c.bytes_of-had.result c.bytes_at.result c.in_ok-key.key.value.now key.row
    c.resize_in.new.nodes.entries c.self.invariant c.self.view_is key.there key.value key.number
    (database_resized c.args.self.now c.names-names.result.now c.args.len c.in_ok-key.key.number c.in_ok-key.key.value.now c.resize_fault.result
    (change_at c.args.self.now.rows c.names-names.result.now (λ (v : HeldValue). resized v c.args.len))
    (sym (ap (λ (s : Rows). s.links) c.self.view_is)) (subst IsDatabase c.self.view_is c.self.invariant.database) (subst IsPath (sym c.names-names.ensures.names) c.names-names.ensures.is_path) c.in_ok-key.ensures.found
    c.resize_fault.ensures c.in_default.is refl)
    c.in_ok-resize_in.ensures.ok.rows c.in_ok-resize_in.ensures.ok.names c.bytes_of-had.ensures.value c.bytes_at.ensures.bytes).0
    ∙ ap (λ (p : List (List ℕ)). after_resize c.args.self.now p c.args.len) c.names-names.ensures.names
