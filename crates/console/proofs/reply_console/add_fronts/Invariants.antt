use Rattle.std.proofs.Common.{◌≡◌, ◌++◌, take}
use Rattle.console.specs.Console.{sent_lines}
use Rattle.console.proofs.reply_console.add_fronts.Given as goal

abbrev pub invariant-loop-front : goal.invariant-loop-front
invariant-loop-front l = l.text ≡ l.initial.text ++ sent_lines (take l.front-index l.fronts)
