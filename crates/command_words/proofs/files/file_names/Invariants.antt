-- The names of the words up to here.
use Rattle.std.proofs.Common.{◌≡◌, ◌-◌, take, drop}
use Rattle.command_words.proofs.files.file_names.Given as goal

abbrev pub invariant-loop-at : goal.invariant-loop-at
invariant-loop-at l = l.names.items ≡ take (l.at - 1) (drop 1 l.words)
