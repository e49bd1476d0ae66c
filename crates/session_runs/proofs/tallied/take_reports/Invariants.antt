-- The reports of the clients before this one are taken in, and those of the others are still there.
use Rattle.std.specs.Prelude.{◌≡◌, ◌≤◌, ◌+◌, ℕ, length}
use Rattle.session_runs.specs.ToldTallies.{report_told, reports_told}
use Rattle.session_runs.proofs.tallied.take_reports.Given as goal

abbrev pub invariant-loop-place : goal.invariant-loop-place
invariant-loop-place l = record {
  so_far : l.reports ≡ reports_told l.first l.place l.initial.tallies;
  few : length l.reports ≤ l.place;
  left : (other : ℕ) → l.first + l.place ≤ other → report_told other l.tallies ≡ report_told other l.initial.tallies;
}
