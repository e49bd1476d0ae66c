use Rattle.std.proofs.Common.{◌≡◌, ◌++◌, take}
use Rattle.session_runs.specs.FileRows.{file_rows}
use Rattle.console.specs.Console.{file_lines}
use Rattle.console.proofs.reply_console.add_files.Given as goal

abbrev pub invariant-loop-channel : goal.invariant-loop-channel
invariant-loop-channel l = l.text ≡ l.initial.text ++ file_lines (file_rows l.run (take l.channel-index l.files))
