use Rattle.std.proofs.Common.{◌≡◌, List, Ok, refl, sym, subst, ap, ◌∙◌}
use Rattle.odb_value.specs.Paths.{IsPath}
use Rattle.odb_tree.specs.declared.rows.Row.{Row}
use Rattle.odb_tree.specs.Rows.{Rows, no_rows}
use Rattle.odb_tree.proofs.CallLemmas.{sought_key}
use Rattle.odb_tree.specs.Lookups.{seek_key}
use Rattle.odb_tree.specs.Limits.{len_fault, limit_fault}
use Rattle.odb_tree.specs.Calls.{after_resize}
use Rattle.odb_tree.specs.Databases.{IsDatabase}
use Rattle.odb_tree.specs.PlainInside.{plain_rows}
use Rattle.odb_tree.proofs.Led.{can_resize}
use Rattle.odb_tree.proofs.Sound.{database_resized}
use Rattle.odb_tree.proofs.plain.PlainTree.resize_there.Goals as goal

pub resize_fault-requires : goal.resize_fault-requires
resize_fault-requires c =
    sought_key c.args.self.now c.as_slice.result.now c.names-names.result.now c.in_ok-key.key.number c.in_ok-key.key.value.now
    (c.as_slice.ensures.value ∙ ap (λ (s : Rows). s.rows) c.self.view_is) c.in_ok-key.ensures.found

pub resize_at-requires-clause-kept : goal.resize_at-requires-clause-kept
resize_at-requires-clause-kept c = λ row there. can_resize (plain_rows c.self.inside) c.names-names.result.now row c.self.invariant.rows refl there

pub invariant_of-self : goal.invariant_of-self
invariant_of-self c = subst (λ (rows : List Row). IsDatabase (record no_rows { rows = rows; next = c.self.inside.next })) (sym c.in_err-resize_at.ensures.err) c.self.invariant

pub invariant_of-self-2 : goal.invariant_of-self-2
invariant_of-self-2 c =
    database_resized (plain_rows c.self.inside) c.names-names.result.now c.args.len c.in_ok-key.key.number c.in_ok-key.key.value.now c.resize_fault.result c.resize_at.new.rows.items
    refl c.self.invariant (subst IsPath (sym c.names-names.ensures.names) c.names-names.ensures.is_path)
    (subst (λ (rows : List Row). seek_key rows c.names-names.result.now ≡ Ok (c.in_ok-key.key.number, c.in_ok-key.key.value.now)) c.as_slice.ensures.value c.in_ok-key.ensures.found)
    (subst (λ (s : Rows). c.resize_fault.result ≡ limit_fault (len_fault c.args.len) (after_resize s c.names-names.result.now c.args.len)) (sym c.self.view_is) c.resize_fault.ensures)
    c.in_default.is c.in_ok-resize_at.ensures.ok
