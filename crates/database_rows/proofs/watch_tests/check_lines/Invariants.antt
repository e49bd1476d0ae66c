use Rattle.std.proofs.Common.{◌≡◌}
use Rattle.daq_types.specs.Callers.{main_caller}
use Rattle.database_rows.proofs.watch_tests.check_lines.Given as goal

abbrev pub invariant-loop-place : goal.invariant-loop-place
invariant-loop-place g l = (g.P.DatabasePort.access l.port).caller ≡ main_caller
