use Rattle.std.proofs.Common.{◌≡◌, refl, subst, ◌∙◌}
use Rattle.odb_tree.specs.Rows.{Rows}
use Rattle.odb_tree.specs.Limits.{limit_fault}
use Rattle.odb_tree.specs.Making.{created}
use Rattle.odb_tree.specs.PlainInside.{plain_rows}
use Rattle.odb_tree.proofs.FaultLemmas.{new_fault_is}
use Rattle.odb_tree.proofs.plain.PlainTree.new_fault.Goals as goal

pub returns : goal.returns
returns c = λ value same.
    subst (λ (s : Rows). c.limit_fault.result ≡ limit_fault c.args.own (created s c.args.names.now value)) c.self.view_is
    (c.limit_fault.ensures
    ∙ new_fault_is (plain_rows c.self.inside) c.args.names.now c.args.own c.args.bytes _ c.count_missing-missing.result c.total.result value c.as_slice-rows.result.now c.parent.result.now
    c.as_slice-rows.ensures.value c.parent.ensures c.count_missing-missing.ensures.count refl c.total.ensures same)
