use Rattle.std.proofs.Common.{subst}
use Rattle.std.proofs.lemmas.Result.{err_from_is_err_and}
use Rattle.std.specs.Str.Lines.{lines}
use Rattle.odb_tree.specs.Rows.{Rows}
use Rattle.odb_text.specs.TextFaults.{IsTextFault}
use Rattle.odb_text.proofs.loading.load.Goals as goal

-- the copy has the same rows
pub returns-in_err-loaded-clause-fault : goal.returns-in_err-loaded-clause-fault
returns-in_err-loaded-clause-fault g c =
    let p = err_from_is_err_and c.from_residual.result c.from_residual.ensures.1 in
    rw (p.1, p.2) (subst (λ (s : Rows). IsTextFault s (lines c.args.text.now) c.in_err-loaded.field-0.0) c.in-Ok.ensures.rows c.in_err-loaded.ensures.fault)
