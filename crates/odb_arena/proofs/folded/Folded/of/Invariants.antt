use Rattle.std.proofs.Common.{◌≡◌, ◌-◌, ◌++◌, map, take}
use Rattle.std.specs.Prelude.{replicate}
use Rattle.std.specs.Char.{to_ascii_lowercase}
use Rattle.odb_arena.proofs.folded.Folded.of.Given as goal

abbrev pub invariant-loop-i : goal.invariant-loop-i
invariant-loop-i l = l.bytes ≡ map to_ascii_lowercase (take l.i l.name) ++ replicate (32 - l.i) 0
