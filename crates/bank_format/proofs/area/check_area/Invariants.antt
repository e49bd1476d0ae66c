use Rattle.std.proofs.Common.{◌≤◌, length}
use Rattle.bank_format.specs.Faults.{PassesBanks}
use Rattle.bank_format.specs.Spelled.{IsBytes}
use Rattle.bank_format.proofs.area.check_area.Given as goal

abbrev pub invariant-loop-left : goal.invariant-loop-left
invariant-loop-left l = record { passes : PassesBanks l.format l.area l.left; small : IsBytes l.left; within : length l.left ≤ l.total }

abbrev pub decreases-loop-left : goal.decreases-loop-left
decreases-loop-left l = length l.left
