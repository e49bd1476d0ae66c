use Rattle.std.proofs.Common.{◌≡◌, map, string_bytes}
use Rattle.daq_std.proofs.words.words_behind_name.Given as goal

-- the words are those given so far
abbrev pub invariant-loop-word : goal.invariant-loop-word
invariant-loop-word l = l.words ≡ map string_bytes l.yielded
