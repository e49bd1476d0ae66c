use Rattle.std.proofs.Common.{ℕ, List, refl, sym, subst, ap, ◌∙◌}
use Rattle.std.specs.Option.{option_copied}
use Rattle.odb_value.specs.Paths.{IsPath}
use Rattle.odb_value.specs.Values.{HeldValue}
use Rattle.odb_tree.specs.Rows.{change_at, bytes_in}
use Rattle.odb_tree.specs.Databases.{IsDatabase}
use Rattle.odb_tree.specs.Calls.{after_set_all, after_set_all_at}
use Rattle.odb_tree.proofs.Sound.{database_replaced}
use Rattle.odb_arena.proofs.Keys.{key_bytes}
use Rattle.odb_arena.proofs.Accepted.{can_set_all, key_there}
use Rattle.odb_arena.proofs.Altering.{altered}
use Rattle.odb_arena.proofs.tree.ArenaTree.set_all_there.Goals as goal

pub overflow_sub-self : goal.overflow_sub-self
overflow_sub-self c =
    let had = key_there c.args.self.now c.names-names.result.now c.args.value.now c.set_all_fault.result c.in-Some-row_at.row.now c.set_all_fault.ensures c.in_default.is (sym c.row_at.ensures ∙ ap option_copied c.in-Some-row_at.is) in
    key_bytes c.self.inside c.args.self.now c.names-names.result.now c.in-Some-row_at.row.now.number had.0 c.bytes_in-had.result c.self.invariant c.self.view_is
    (record { row = c.in-Some-row_at.row.now; there = (sym c.row_at.ensures ∙ ap option_copied c.in-Some-row_at.is); value = had.1; number = refl }) (c.bytes_in-had.ensures.bytes ∙ ap bytes_in had.1)

pub invariant_of-self : goal.invariant_of-self
invariant_of-self c =
    let had = key_there c.args.self.now c.names-names.result.now c.args.value.now c.set_all_fault.result c.in-Some-row_at.row.now c.set_all_fault.ensures c.in_default.is (sym c.row_at.ensures ∙ ap option_copied c.in-Some-row_at.is) in
    (altered c.self.inside c.args.self.now c.names-names.result.now (λ (_ : HeldValue). c.in_ok-value.value) c.in-Some-row_at.row.now.number c.bytes_in-had.result c.bytes_at.result had.0 c.in-Some-row_at.row.now
    c.replace_in.new.nodes.entries c.self.invariant c.self.view_is (sym c.row_at.ensures ∙ ap option_copied c.in-Some-row_at.is) had.1 refl
    (database_replaced c.args.self.now c.names-names.result.now c.args.value.now c.in_ok-value.value c.in-Some-row_at.row.now c.set_all_fault.result
    (change_at c.args.self.now.rows c.names-names.result.now (λ (_ : HeldValue). c.in_ok-value.value))
    (subst IsDatabase c.self.view_is c.self.invariant.database) (subst IsPath (sym c.names-names.ensures.names) c.names-names.ensures.is_path) c.tid.ensures.held
    c.set_all_fault.ensures c.in_default.is (sym c.row_at.ensures ∙ ap option_copied c.in-Some-row_at.is) c.in_ok-value.ensures refl)
    c.replace_in.ensures.rows c.replace_in.ensures.names (c.bytes_in-had.ensures.bytes ∙ ap bytes_in had.1) c.bytes_at.ensures.bytes).1

pub make-requires-clause-can : goal.make-requires-clause-can
make-requires-clause-can c =
    can_set_all c.args.self.now c.names-names.result.now c.args.value.now c.in_ok-value.value c.set_all_fault.result (subst IsDatabase c.self.view_is c.self.invariant.database)
    (subst IsPath (sym c.names-names.ensures.names) c.names-names.ensures.is_path) c.tid.ensures.held c.set_all_fault.ensures c.in_default.is
    (sym c.row_at.ensures ∙ ap option_copied c.in-None.is) c.in_ok-value.ensures

pub returns-in-Some-row_at-clause-after : goal.returns-in-Some-row_at-clause-after
returns-in-Some-row_at-clause-after c =
    let had = key_there c.args.self.now c.names-names.result.now c.args.value.now c.set_all_fault.result c.in-Some-row_at.row.now c.set_all_fault.ensures c.in_default.is (sym c.row_at.ensures ∙ ap option_copied c.in-Some-row_at.is) in
    (altered c.self.inside c.args.self.now c.names-names.result.now (λ (_ : HeldValue). c.in_ok-value.value) c.in-Some-row_at.row.now.number c.bytes_in-had.result c.bytes_at.result had.0 c.in-Some-row_at.row.now
    c.replace_in.new.nodes.entries c.self.invariant c.self.view_is (sym c.row_at.ensures ∙ ap option_copied c.in-Some-row_at.is) had.1 refl
    (database_replaced c.args.self.now c.names-names.result.now c.args.value.now c.in_ok-value.value c.in-Some-row_at.row.now c.set_all_fault.result
    (change_at c.args.self.now.rows c.names-names.result.now (λ (_ : HeldValue). c.in_ok-value.value))
    (subst IsDatabase c.self.view_is c.self.invariant.database) (subst IsPath (sym c.names-names.ensures.names) c.names-names.ensures.is_path) c.tid.ensures.held
    c.set_all_fault.ensures c.in_default.is (sym c.row_at.ensures ∙ ap option_copied c.in-Some-row_at.is) c.in_ok-value.ensures refl)
    c.replace_in.ensures.rows c.replace_in.ensures.names (c.bytes_in-had.ensures.bytes ∙ ap bytes_in had.1) c.bytes_at.ensures.bytes).0
    ∙ (ap (λ (w : HeldValue). record c.args.self.now { rows = change_at c.args.self.now.rows c.names-names.result.now (λ (_ : HeldValue). w) }) c.in_ok-value.ensures
    ∙ (sym (ap (after_set_all_at c.args.self.now c.names-names.result.now c.args.value.now) (sym c.row_at.ensures ∙ ap option_copied c.in-Some-row_at.is))
    ∙ ap (λ (p : List (List ℕ)). after_set_all c.args.self.now p c.args.value.now) c.names-names.ensures.names))
