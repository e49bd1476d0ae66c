-- What the clients before this one told is taken in.
use Rattle.std.specs.Prelude.{◌≡◌, ◌≤◌, length}
use Rattle.session_runs.specs.ToldTallies.{fronts_told}
use Rattle.session_runs.proofs.tallied.take_fronts.Given as goal

abbrev pub invariant-loop-client : goal.invariant-loop-client
invariant-loop-client l = record {
  so_far : l.fronts ≡ fronts_told l.client l.fn.tallies;
  few : length l.fronts ≤ l.client;
}
