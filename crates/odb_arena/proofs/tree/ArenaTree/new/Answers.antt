use Rattle.std.proofs.Common.{ℕ, List, sym, subst, ap, ◌∙◌}
use Rattle.odb_arena.specs.declared.node.Node.{Node}
use Rattle.odb_arena.specs.Arena.{row_of, names_at, all_rows, IsArena}
use Rattle.odb_arena.proofs.Whole.{arena_begins, no_rows_yet}
use Rattle.odb_arena.proofs.tree.ArenaTree.new.Goals as goal

pub invariant_of-result : goal.invariant_of-result
invariant_of-result c =
    subst (λ (nodes : List (ℕ × Node)). IsArena (row_of nodes) (names_at c.new.result nodes) 1 0 0) (sym c.new-2.ensures.empty) (arena_begins c.new.result c.new.ensures)

pub returns : goal.returns
returns c = ap (λ (nodes : List (ℕ × Node)). all_rows (row_of nodes) 1) c.new-2.ensures.empty ∙ no_rows_yet
