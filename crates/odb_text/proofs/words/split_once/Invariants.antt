use Rattle.std.proofs.Common.{take}
use Rattle.odb_text.specs.LineForms.{HasNo}
use Rattle.odb_text.proofs.words.split_once.Given as goal

abbrev pub invariant-loop-place : goal.invariant-loop-place
invariant-loop-place l = HasNo l.at (take l.place l.text)
