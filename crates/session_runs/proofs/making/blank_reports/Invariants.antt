use Rattle.std.specs.Prelude.{◌≡◌}
use Rattle.session_runs.specs.RunEntries.{blank_reports}
use Rattle.session_runs.proofs.making.blank_reports.Given as goal

abbrev pub invariant-loop-place : goal.invariant-loop-place
invariant-loop-place l = l.blanks ≡ blank_reports l._place
