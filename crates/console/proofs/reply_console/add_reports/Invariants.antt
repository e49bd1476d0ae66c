use Rattle.std.proofs.Common.{◌≡◌, ◌++◌, take}
use Rattle.console.specs.Console.{report_lines}
use Rattle.console.proofs.reply_console.add_reports.Given as goal

abbrev pub invariant-loop-line : goal.invariant-loop-line
invariant-loop-line l = l.text ≡ l.initial.text ++ report_lines (take l.line-index l.reports)
