use Rattle.std.proofs.Common.{◌≡◌, map, take}
use Rattle.command_words.proofs.reader.first_texts.Given as goal

abbrev pub invariant-loop-at : goal.invariant-loop-at
invariant-loop-at l = map (λ word. word.now) l.texts.items ≡ take l.at l.words
