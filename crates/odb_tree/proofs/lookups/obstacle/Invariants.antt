use Rattle.std.proofs.Common.{◌≡◌, take, drop, []}
use Rattle.odb_tree.specs.Lookups.{obstacle_from}
use Rattle.odb_tree.proofs.lookups.obstacle.Given as goal

abbrev pub invariant-loop-i : goal.invariant-loop-i
invariant-loop-i l = obstacle_from l.missing l.rows [] l.names ≡ obstacle_from l.missing l.rows (take l.i l.names) (drop l.i l.names)
