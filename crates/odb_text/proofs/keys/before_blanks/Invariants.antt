use Rattle.std.proofs.Common.{◌≡◌, length, reverse}
use Rattle.daq_text.specs.Numbers.{behind, is_blank}
use Rattle.odb_text.proofs.keys.before_blanks.Given as goal

abbrev pub invariant-loop-last : goal.invariant-loop-last
invariant-loop-last l = behind is_blank (reverse l.rest) ≡ behind is_blank (reverse l.fn.text)

abbrev pub decreases-loop-last : goal.decreases-loop-last
decreases-loop-last l = length l.rest
