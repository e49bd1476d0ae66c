-- The words up to here name files.
use Rattle.std.proofs.Common.{◌≤◌, ◌<◌, ℕ, List, get_or}
use Rattle.command_words.specs.CommandLine.{IsFileWord}
use Rattle.command_words.proofs.files.are_files.Given as goal

abbrev pub invariant-loop-at : goal.invariant-loop-at
invariant-loop-at l = (k : ℕ) (d : List ℕ) → 2 ≤ k → k < l.at → IsFileWord (get_or l.words k d)
