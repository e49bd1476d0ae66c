use Rattle.std.proofs.Common.{◌≡◌, ◌++◌}
use Rattle.session_runs.specs.FileRows.{rows_below}
use Rattle.console.specs.Console.{file_lines}
use Rattle.console.proofs.reply_console.add_channel.Given as goal

abbrev pub invariant-loop-number : goal.invariant-loop-number
invariant-loop-number l = l.text ≡ l.initial.text ++ file_lines (rows_below l.run l.files l.number)
