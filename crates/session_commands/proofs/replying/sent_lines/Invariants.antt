-- The lines of the tallies so far.
use Rattle.std.proofs.Common.{◌≡◌, map, take}
use Rattle.session_commands.specs.RunLines.{tally_line}
use Rattle.session_commands.proofs.replying.sent_lines.Given as goal

abbrev pub invariant-loop-tally : goal.invariant-loop-tally
invariant-loop-tally l = l.lines ≡ map (tally_line l.members) (take l.tally-index l.tallies)
