use Rattle.std.proofs.Common.{ℕ, List, refl, Err, sym, subst, ap, ◌∙◌}
use Rattle.std.proofs.lemmas.Result.{err_from_is_err_and}
use Rattle.odb_value.specs.Paths.{IsPath}
use Rattle.odb_value.specs.Values.{HeldValue}
use Rattle.odb_value.specs.ValueChanges.{put_in}
use Rattle.odb_tree.specs.declared.refusals.OdbRefusal.{OdbRefusal}
use Rattle.odb_tree.specs.Rows.{change_at}
use Rattle.odb_tree.specs.Lookups.{seek_key}
use Rattle.odb_tree.specs.Databases.{IsDatabase}
use Rattle.odb_tree.specs.Calls.{after_set}
use Rattle.odb_tree.proofs.CallLemmas.{can_put}
use Rattle.odb_tree.proofs.Sound.{database_set}
use Rattle.odb_tree.proofs.Lasting.{sought_key as lasting, handed}
use Rattle.odb_arena.proofs.Keys.{key_row, key_at, node_can_put, key_bytes}
use Rattle.odb_arena.proofs.Altering.{altered}
use Rattle.odb_arena.proofs.tree.ArenaTree.set_there.Goals as goal

pub set_fault-requires : goal.set_fault-requires
set_fault-requires c =
    key_at c.args.self.now.rows c.names-names.result.now c.in_ok-key.key.number c.in_ok-key.key.value.now
    (key_row c.args.self.now.rows c.names-names.result.now c.in_ok-key.key.number c.in_ok-key.key.value.now c.in_ok-key.ensures.found)

pub put_in-requires : goal.put_in-requires
put_in-requires c =
    node_can_put c.self.inside c.args.self.now c.names-names.result.now c.in_ok-key.key.number c.in_ok-key.key.value.now c.args.index c.args.item.now c.in_ok-item.item c.self.invariant c.self.view_is
    (key_row c.args.self.now.rows c.names-names.result.now c.in_ok-key.key.number c.in_ok-key.key.value.now c.in_ok-key.ensures.found)
    (can_put c.args.self.now c.names-names.result.now c.args.index c.args.item.now c.in_ok-key.key.value.now c.set_fault.result c.set_fault.ensures c.in_default.is) c.in_ok-item.ensures.item

pub overflow_sub-self : goal.overflow_sub-self
overflow_sub-self c =
    key_bytes c.self.inside c.args.self.now c.names-names.result.now c.in_ok-key.key.number c.in_ok-key.key.value.now c.bytes_of-had.result c.self.invariant c.self.view_is
    (key_row c.args.self.now.rows c.names-names.result.now c.in_ok-key.key.number c.in_ok-key.key.value.now c.in_ok-key.ensures.found) c.bytes_of-had.ensures.value

pub invariant_of-self : goal.invariant_of-self
invariant_of-self c =
    let key = key_row c.args.self.now.rows c.names-names.result.now c.in_ok-key.key.number c.in_ok-key.key.value.now c.in_ok-key.ensures.found in
    (altered c.self.inside c.args.self.now c.names-names.result.now (λ (v : HeldValue). put_in v c.args.index c.in_ok-item.item) c.in_ok-key.key.number c.bytes_of-had.result c.bytes_at.result c.in_ok-key.key.value.now key.row
    c.put_in.new.nodes.entries c.self.invariant c.self.view_is key.there key.value key.number
    (database_set c.args.self.now c.names-names.result.now c.args.index c.args.item.now c.in_ok-item.item c.in_ok-key.key.number c.in_ok-key.key.value.now c.set_fault.result
    (change_at c.args.self.now.rows c.names-names.result.now (λ (v : HeldValue). put_in v c.args.index c.in_ok-item.item))
    (subst IsDatabase c.self.view_is c.self.invariant.database) (subst IsPath (sym c.names-names.ensures.names) c.names-names.ensures.is_path) c.tid.ensures.is_item.sound c.in_ok-key.ensures.found
    c.set_fault.ensures c.in_default.is c.in_ok-item.ensures.item refl)
    c.put_in.ensures.rows c.put_in.ensures.names c.bytes_of-had.ensures.value c.bytes_at.ensures.bytes).1

pub returns-clause-after : goal.returns-clause-after
returns-clause-after c =
    let key = key_row c.args.self.now.rows c.names-names.result.now c.in_ok-key.key.number c.in_ok-key.key.value.now c.in_ok-key.ensures.found in
    (altered c.self.inside c.args.self.now c.names-names.result.now (λ (v : HeldValue). put_in v c.args.index c.in_ok-item.item) c.in_ok-key.key.number c.bytes_of-had.result c.bytes_at.result c.in_ok-key.key.value.now key.row
    c.put_in.new.nodes.entries c.self.invariant c.self.view_is key.there key.value key.number
    (database_set c.args.self.now c.names-names.result.now c.args.index c.args.item.now c.in_ok-item.item c.in_ok-key.key.number c.in_ok-key.key.value.now c.set_fault.result
    (change_at c.args.self.now.rows c.names-names.result.now (λ (v : HeldValue). put_in v c.args.index c.in_ok-item.item))
    (subst IsDatabase c.self.view_is c.self.invariant.database) (subst IsPath (sym c.names-names.ensures.names) c.names-names.ensures.is_path) c.tid.ensures.is_item.sound c.in_ok-key.ensures.found
    c.set_fault.ensures c.in_default.is c.in_ok-item.ensures.item refl)
    c.put_in.ensures.rows c.put_in.ensures.names c.bytes_of-had.ensures.value c.bytes_at.ensures.bytes).0
    ∙ (ap (λ (p : List (List ℕ)). after_set c.args.self.now p c.args.index c.in_ok-item.item) c.names-names.ensures.names
    ∙ ap (after_set c.args.self.now c.args.path.now c.args.index) c.in_ok-item.ensures.item)

pub returns-in_err-key-clause-memory : goal.returns-in_err-key-clause-memory
returns-in_err-key-clause-memory c = λ e.
    let p = err_from_is_err_and c.from_residual.result c.from_residual.ensures.1 in
    absurd (handed c.in_err-key.field-0.0 (seek_key c.args.self.now.rows c.names-names.result.now) c.from_residual.result c.in_err-key.ensures.refused
    (lasting c.args.self.now.rows c.names-names.result.now) (p.1 ∙ ap (λ (x : OdbRefusal). Err x) p.2) e)
