use Rattle.std.proofs.Common.{◌≡◌, ℕ, List, Some}
use Rattle.odb_tree.specs.Calls.{path_with}
use Rattle.odb_arena.specs.Leaves.{IsWayDown}
use Rattle.odb_arena.proofs.tree.ArenaTree.leaf_below.Given as goal

abbrev pub invariant-loop-depth : goal.invariant-loop-depth
invariant-loop-depth l = (p : List (List ℕ)) → path_with l.self.rows l.number ≡ Some p → IsWayDown l.self p l._depth l.at
