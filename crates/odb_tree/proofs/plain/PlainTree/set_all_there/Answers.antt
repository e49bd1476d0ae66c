use Rattle.std.proofs.Common.{◌≡◌, List, Some, None, sym, ap, ◌∙◌, subst}
use Rattle.std.specs.Option.{option_copied}
use Rattle.odb_value.specs.Paths.{IsPath}
use Rattle.odb_tree.specs.declared.rows.Row.{Row}
use Rattle.odb_tree.specs.Rows.{Rows, row_at}
use Rattle.odb_tree.specs.Making.{created}
use Rattle.odb_tree.specs.Calls.{set_all_fault}
use Rattle.odb_tree.specs.Databases.{IsDatabase}
use Rattle.odb_tree.specs.PlainInside.{plain_rows}
use Rattle.odb_tree.proofs.Sound.{database_replaced, database_made}
use Rattle.odb_tree.proofs.plain.PlainTree.set_all_there.Goals as goal

pub invariant_of-self : goal.invariant_of-self
invariant_of-self c =
    database_replaced (plain_rows c.self.inside) c.names-names.result.now c.args.value.now c.in_ok-value.value c.in-Some-row_at.row.now c.set_all_fault.result c.replace_at.new.rows.items
    c.self.invariant (subst IsPath (sym c.names-names.ensures.names) c.names-names.ensures.is_path) c.tid.ensures.held
    (subst (λ (s : Rows). c.set_all_fault.result ≡ set_all_fault s c.names-names.result.now c.args.value.now) (sym c.self.view_is) c.set_all_fault.ensures) c.in_default.is
    (subst (λ (rows : List Row). row_at rows c.names-names.result.now ≡ Some c.in-Some-row_at.row.now) c.as_slice.ensures.value (sym c.row_at.ensures ∙ ap option_copied c.in-Some-row_at.is))
    c.in_ok-value.ensures c.replace_at.ensures

pub make-requires-clause-database : goal.make-requires-clause-database
make-requires-clause-database c =
    subst (λ (s : Rows). IsDatabase (created s c.names-names.result.now (Some c.in_ok-value.value))) c.self.view_is
    (database_made (plain_rows c.self.inside) c.names-names.result.now c.args.value.now c.in_ok-value.value c.set_all_fault.result
    c.self.invariant (subst IsPath (sym c.names-names.ensures.names) c.names-names.ensures.is_path) c.tid.ensures.held
    (subst (λ (s : Rows). c.set_all_fault.result ≡ set_all_fault s c.names-names.result.now c.args.value.now) (sym c.self.view_is) c.set_all_fault.ensures) c.in_default.is
    (subst (λ (rows : List Row). row_at rows c.names-names.result.now ≡ None) c.as_slice.ensures.value (sym c.row_at.ensures ∙ ap option_copied c.in-None.is))
    c.in_ok-value.ensures)
