use Rattle.std.proofs.Common.{◌∙◌, ℕ, List, ap, subst, sym}
use Rattle.midas_tools.specs.Dumps.{fault_lines}
use Rattle.midas_tools.specs.Printing.{PassesText}
use Rattle.midas_tools.proofs.Dumping.{fault_line_is}
use Rattle.midas_tools.proofs.dump.print_fault.Goals as goal

pub returns-in_default : goal.returns-in_default
returns-in_default g c = record {
  passes = subst (λ (l : List ℕ). PassesText (g.O.Sink.told c.args.out.now).written (g.O.Sink.told c.print.new.out).written c.args.page.now c.print.new.self l c.print.result)
      (c.bad_line.ensures ∙ sym (ap fault_lines c.in-Some.is ∙ fault_line_is c.in-Some.fault c.in_default.not-ReadFault)) c.print.ensures.passes;
  faults = c.print.ensures.faults;
}
