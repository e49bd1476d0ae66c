-- The files of the channels before this one are taken in.
use Rattle.std.specs.Prelude.{◌≡◌, ◌≤◌, length, take}
use Rattle.session_runs.specs.ToldTallies.{files_told}
use Rattle.session_runs.proofs.tallied.take_told.Given as goal

abbrev pub invariant-loop-channel : goal.invariant-loop-channel
invariant-loop-channel l = record {
  so_far : l.files ≡ files_told l.fn.ends (take l.channel-index l.fn.channels);
  few : length l.files ≤ l.channel-index;
}
