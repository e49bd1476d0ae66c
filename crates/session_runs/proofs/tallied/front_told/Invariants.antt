-- So far the client told nothing that it sent.
use Rattle.std.specs.Prelude.{◌≡◌, drop}
use Rattle.session_runs.specs.ToldTallies.{front_told}
use Rattle.session_runs.proofs.tallied.front_told.Given as goal

abbrev pub invariant-loop-told : goal.invariant-loop-told
invariant-loop-told l = front_told l.client l.fn.tallies ≡ front_told l.client (drop l.told-index l.fn.tallies)
