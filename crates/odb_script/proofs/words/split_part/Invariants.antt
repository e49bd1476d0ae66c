use Rattle.std.proofs.Common.{◌≡◌, All, true, take}
use Rattle.odb_script.specs.NextWords.{belongs}
use Rattle.odb_script.proofs.words.split_part.Given as goal

abbrev pub invariant-loop-place : goal.invariant-loop-place
invariant-loop-place l = All (λ b. belongs l.part b ≡ true) (take l.place l.bytes)
