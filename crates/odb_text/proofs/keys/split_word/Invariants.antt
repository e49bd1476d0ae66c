use Rattle.std.proofs.Common.{◌≡◌, true, take}
use Rattle.std.specs.List.{AllByRecursion}
use Rattle.odb_text.specs.LineForms.{is_of_word}
use Rattle.odb_text.proofs.keys.split_word.Given as goal

abbrev pub invariant-loop-place : goal.invariant-loop-place
invariant-loop-place l = AllByRecursion (λ b. is_of_word b ≡ true) (take l.place l.text)
