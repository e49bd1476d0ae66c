use Rattle.std.proofs.Common.{◌∙◌, ap}
use Rattle.std.proofs.lemmas.Result.{err_from_is_err_and}
use Rattle.midas_tools.specs.Areas.{bank_lines}
use Rattle.midas_tools.proofs.AreasLaws.{bank_printed, bank_cut}
use Rattle.midas_tools.proofs.areas.print_banks.Goals as goal

pub loop-bank-preserved : goal.loop-bank-preserved
loop-bank-preserved g c = record {
  prints = bank_printed _ _ _ c.loop-bank.page c.print_bank_line.new.page _ _ (bank_lines c.next.new.self.left) (bank_lines c.loop-bank.banks.left) c.in_ok-print_bank_line.field-0
      (ap bank_lines c.in-Some.ensures.bank) c.loop-bank.invariant.prints c.in_ok-print_bank_line.ensures.passes;
  sink = c.in_ok-print_bank_line.ensures.faults.done ∙ c.loop-bank.invariant.sink;
}

pub returns-in_err-print_bank_line-clause-passes : goal.returns-in_err-print_bank_line-clause-passes
returns-in_err-print_bank_line-clause-passes g c =
    let p = err_from_is_err_and c.from_residual.result c.from_residual.ensures.1 in
    rw p.1 (bank_cut _ _ _ c.loop-bank.page c.print_bank_line.new.page _ _ (bank_lines c.next.new.self.left) (bank_lines c.loop-bank.banks.left) c.in_err-print_bank_line.field-0.0
    (ap bank_lines c.in-Some.ensures.bank) c.loop-bank.invariant.prints c.in_err-print_bank_line.ensures.passes)
