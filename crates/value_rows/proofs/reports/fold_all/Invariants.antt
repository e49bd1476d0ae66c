use Rattle.std.proofs.Common.{◌+◌, ◌≤◌, ◌^◌}
use Rattle.value_rows.proofs.reports.fold_all.Given as goal

abbrev pub invariant-loop-id : goal.invariant-loop-id
invariant-loop-id l = l.report.bytes + l.left ≤ 2 ^ 62
