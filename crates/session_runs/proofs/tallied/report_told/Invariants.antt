-- So far the client told no report.
use Rattle.std.specs.Prelude.{◌≡◌, drop}
use Rattle.session_runs.specs.ToldTallies.{report_told}
use Rattle.session_runs.proofs.tallied.report_told.Given as goal

abbrev pub invariant-loop-place : goal.invariant-loop-place
invariant-loop-place l = record {
  same : l.tallies ≡ l.initial.tallies;
  so_far : report_told l.client l.initial.tallies ≡ report_told l.client (drop l.place l.initial.tallies);
}
