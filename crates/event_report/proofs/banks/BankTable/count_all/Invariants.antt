use Rattle.std.proofs.Common.{length}
use Rattle.event_report.proofs.Loops.{IsCounted}
use Rattle.event_report.proofs.banks.BankTable.count_all.Given as goal

abbrev pub invariant-loop-bank : goal.invariant-loop-bank
invariant-loop-bank l = IsCounted l.initial.self l.initial.banks.left l.self l.banks.left

abbrev pub decreases-loop-bank : goal.decreases-loop-bank
decreases-loop-bank l = length l.banks.left
