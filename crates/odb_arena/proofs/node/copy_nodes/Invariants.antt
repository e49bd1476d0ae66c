use Rattle.std.proofs.Common.{take}
use Rattle.odb_arena.proofs.Copied.{AreCopies}
use Rattle.odb_arena.proofs.node.copy_nodes.Given as goal

abbrev pub invariant-loop-i : goal.invariant-loop-i
invariant-loop-i l = AreCopies (take l.i l.nodes.entries) l.copy.entries
