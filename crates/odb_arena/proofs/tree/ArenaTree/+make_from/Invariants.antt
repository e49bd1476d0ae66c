use Rattle.std.proofs.Common.{length}
use Rattle.odb_arena.proofs.tree.ArenaTree.+make_from.Given as goal

abbrev pub decreases-make_from : goal.decreases-make_from
decreases-make_from l = length l.names.now
