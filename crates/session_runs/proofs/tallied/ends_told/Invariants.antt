-- So far the logger told nothing of its channels.
use Rattle.std.specs.Prelude.{◌≡◌, drop}
use Rattle.session_runs.specs.ToldTallies.{ends_told}
use Rattle.session_runs.proofs.tallied.ends_told.Given as goal

abbrev pub invariant-loop-told : goal.invariant-loop-told
invariant-loop-told l = ends_told l.logger l.fn.tallies ≡ ends_told l.logger (drop l.told-index l.fn.tallies)
