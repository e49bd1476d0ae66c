use Rattle.std.proofs.Common.{◌≡◌, take}
use Rattle.odb_value.proofs.paths.Path.of.Given as goal

abbrev pub invariant-loop-name : goal.invariant-loop-name
invariant-loop-name l = l.path ≡ take l.name-index l.names
