use Rattle.odb_arena.specs.Leaves.{AreRemoved}
use Rattle.odb_arena.proofs.tree.ArenaTree.remove_below.Given as goal

abbrev pub invariant-loop-gone : goal.invariant-loop-gone
invariant-loop-gone l = AreRemoved l.fn.self l.self l.number l._gone
