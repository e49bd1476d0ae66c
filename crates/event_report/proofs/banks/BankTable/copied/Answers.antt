use Rattle.std.specs.Prelude.{◌≡◌, ◌++◌, List}
use Rattle.std.proofs.Common.{ap, ◌∙◌, arith}
use Rattle.event_report.specs.declared.rows.BankRow.{BankRow}
use Rattle.event_report.specs.Steps.{row_number}
use Rattle.event_report.proofs.Rising.{table_copied}
use Rattle.event_report.proofs.banks.BankTable.copied.Goals as goal

pub invariant_of-result : goal.invariant_of-result
invariant_of-result c =
    let rows = c.self.inside.rows in
    let made = c.in_ok-rows.ensures in
    let more = c.in_ok-extend_from_slice.ensures in
    let items : c.extend_from_slice.new.self.items ≡ rows.items =
    more.items ∙ (ap (λ (l : List BankRow). l ++ c.as_slice.result.now) made.items ∙ c.as_slice.ensures.value) in
    table_copied row_number rows c.extend_from_slice.new.self c.self.invariant items
    (omega (arith, more.len, made.len, c.as_slice.ensures.len)) (omega (arith, more.capacity, made.capacity))
