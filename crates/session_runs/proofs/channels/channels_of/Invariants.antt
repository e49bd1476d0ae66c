-- The channels with lower numbers are taken in.
use Rattle.std.specs.Prelude.{◌≡◌, ◌≤◌, length}
use Rattle.session_runs.specs.KeptRuns.{channels_below}
use Rattle.session_runs.proofs.channels.channels_of.Given as goal

abbrev pub invariant-loop-number : goal.invariant-loop-number
invariant-loop-number l = record {
  so_far : l.channels ≡ channels_below l.number l.fn.specs;
  few : length l.channels ≤ l.number;
}
