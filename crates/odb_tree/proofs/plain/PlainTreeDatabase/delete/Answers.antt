use Rattle.std.proofs.Common.{◌≡◌, List, Some, None, Err, sym, ap, ◌∙◌, subst}
use Rattle.std.proofs.lemmas.Result.{err_from_is_err_and}
use Rattle.odb_value.specs.Paths.{IsPath}
use Rattle.odb_tree.specs.declared.refusals.OdbRefusal.{OdbRefusal}
use Rattle.odb_tree.specs.declared.rows.Row.{Row}
use Rattle.odb_tree.specs.Lookups.{absent_fault}
use Rattle.odb_tree.specs.PlainInside.{plain_rows}
use Rattle.odb_tree.proofs.Sound.{database_outside}
use Rattle.odb_tree.proofs.Lasting.{absent, refusal_is}
use Rattle.odb_tree.proofs.plain.PlainTreeDatabase.delete.Goals as goal

pub invariant_of-self : goal.invariant_of-self
invariant_of-self c =
    database_outside (plain_rows c.self.inside) c.names-names.result.now c.remove_at-gone.new.rows.items c.self.invariant
    (subst IsPath (sym c.names-names.ensures.names) c.names-names.ensures.is_path)
    (subst (λ (rows : List Row). absent_fault rows c.names-names.result.now ≡ None) c.as_slice.ensures.value c.in_ok-check_there.ensures.row) c.remove_at-gone.ensures.rows

pub returns-in_err-check_there-clause-memory : goal.returns-in_err-check_there-clause-memory
returns-in_err-check_there-clause-memory c = λ e.
    let p = err_from_is_err_and c.from_residual.result c.from_residual.ensures.1 in
    absent c.as_slice.result.now c.names-names.result.now
    (c.in_err-check_there.ensures.refused ∙ ap (λ (x : OdbRefusal). Some x) (refusal_is c.from_residual.result c.in_err-check_there.field-0.0 (p.1 ∙ ap (λ (x : OdbRefusal). Err x) p.2) e))
