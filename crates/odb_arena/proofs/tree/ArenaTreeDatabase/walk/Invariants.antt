use Rattle.odb_arena.proofs.Walking.{IsWalked}
use Rattle.odb_arena.proofs.tree.ArenaTreeDatabase.walk.Given as goal

abbrev pub invariant-loop-depth : goal.invariant-loop-depth
invariant-loop-depth l = IsWalked l.self l.names l.depth l.at l.initial.numbers l.numbers
