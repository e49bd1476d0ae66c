use Rattle.odb_arena.specs.Reaching.{LeadsTo}
use Rattle.odb_arena.proofs.tree.ArenaTree.reach.Given as goal

abbrev pub invariant-loop-depth : goal.invariant-loop-depth
invariant-loop-depth l = LeadsTo l.self.rows l.names l.depth l.at
