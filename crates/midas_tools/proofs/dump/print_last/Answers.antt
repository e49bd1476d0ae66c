use Rattle.std.proofs.Common.{◌++◌}
use Rattle.std.proofs.lemmas.Result.{err_from_is_err_and}
use Rattle.midas_tools.specs.Dumps.{end_lines, fault_lines}
use Rattle.midas_tools.proofs.Printing.{AppendsPart-more, on_err_part, on_ok_all, text_fails, text_passes}
use Rattle.midas_tools.proofs.dump.print_last.Goals as goal

pub returns-in_err-print_end-clause-part : goal.returns-in_err-print_end-clause-part
returns-in_err-print_end-clause-part g c =
    let p = err_from_is_err_and c.from_residual.result c.from_residual.ensures.1 in
    rw p.1 (AppendsPart-more _ _ (c.args.page.now ++ end_lines c.args.last) (fault_lines c.args.fault) c.in_err-print_end.ensures.passes)

pub returns-in_err-print_fault-clause-part : goal.returns-in_err-print_fault-clause-part
returns-in_err-print_fault-clause-part g c =
    let p = err_from_is_err_and c.from_residual-in_err-print_fault.result c.from_residual-in_err-print_fault.ensures.1 in
    rw p.1 (text_fails _ _ _ c.print_end.new.page c.print_fault.new.page (c.args.page.now ++ end_lines c.args.last) (fault_lines c.args.fault) c.in_err-print_fault.field-0.0 c.in_ok-print_end.ensures.passes c.in_err-print_fault.ensures.passes)

pub returns-clause-part : goal.returns-clause-part
returns-clause-part g c =
    on_err_part c.flush.result _ _ _ c.print_fault.new.page _
    (text_passes _ _ _ c.print_end.new.page c.print_fault.new.page (c.args.page.now ++ end_lines c.args.last) (fault_lines c.args.fault) c.in_ok-print_fault.field-0 c.in_ok-print_end.ensures.passes c.in_ok-print_fault.ensures.passes) c.flush.ensures.part

pub returns-clause-all : goal.returns-clause-all
returns-clause-all g c =
    on_ok_all c.flush.result _ _ _ c.print_fault.new.page _
    (text_passes _ _ _ c.print_end.new.page c.print_fault.new.page (c.args.page.now ++ end_lines c.args.last) (fault_lines c.args.fault) c.in_ok-print_fault.field-0 c.in_ok-print_end.ensures.passes c.in_ok-print_fault.ensures.passes) c.flush.ensures.all
