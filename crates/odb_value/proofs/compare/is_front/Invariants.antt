use Rattle.std.proofs.Common.{◌≡◌, drop}
use Rattle.odb_value.specs.Paths.{is_front}
use Rattle.odb_value.proofs.compare.is_front.Given as goal

abbrev pub invariant-loop-i : goal.invariant-loop-i
invariant-loop-i l = is_front l.front l.names ≡ is_front (drop l.i l.front) (drop l.i l.names)
