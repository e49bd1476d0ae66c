use Rattle.std.proofs.Common.{◌≡◌, length}
use Rattle.daq_text.specs.Numbers.{behind, is_digit_in}
use Rattle.daq_text.proofs.numbers.behind_digits.Given as goal

abbrev pub invariant-loop-byte : goal.invariant-loop-byte
invariant-loop-byte l = behind (is_digit_in l.base) l.rest ≡ behind (is_digit_in l.base) l.fn.text

abbrev pub decreases-loop-byte : goal.decreases-loop-byte
decreases-loop-byte l = length l.rest
