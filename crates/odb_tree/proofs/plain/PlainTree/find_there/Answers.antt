use Rattle.std.proofs.Common.{Err, ap, ◌∙◌}
use Rattle.std.proofs.lemmas.Result.{err_from_is_err_and}
use Rattle.odb_tree.specs.declared.refusals.OdbRefusal.{OdbRefusal}
use Rattle.odb_tree.specs.Lookups.{seek}
use Rattle.odb_tree.proofs.Lasting.{sought, handed}
use Rattle.odb_tree.proofs.plain.PlainTree.find_there.Goals as goal

pub returns-in_err-row-clause-memory : goal.returns-in_err-row-clause-memory
returns-in_err-row-clause-memory c =
    let p = err_from_is_err_and c.from_residual.result c.from_residual.ensures.1 in
    handed c.in_err-row.field-0.0 (seek c.as_slice-rows.result.now c.names-names.result.now) c.from_residual.result c.in_err-row.ensures.refused
    (sought c.as_slice-rows.result.now c.names-names.result.now) (p.1 ∙ ap (λ (x : OdbRefusal). Err x) p.2)
