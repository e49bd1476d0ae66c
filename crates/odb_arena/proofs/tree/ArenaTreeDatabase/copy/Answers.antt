use Rattle.odb_arena.specs.Arena.{row_of, names_at}
use Rattle.odb_arena.proofs.Steps.{arena_same}
use Rattle.odb_arena.proofs.Copied.{root_copied}
use Rattle.odb_arena.proofs.tree.ArenaTreeDatabase.copy.Goals as goal

pub invariant_of-result : goal.invariant_of-result
invariant_of-result c =
    (arena_same (row_of c.self.inside.nodes.entries) (row_of c.in_ok-copy_nodes.field-0.entries) (names_at c.self.inside.root c.self.inside.nodes.entries)
    (names_at c.in_ok-copy.field-0 c.in_ok-copy_nodes.field-0.entries) c.self.inside.next c.self.inside.count c.self.inside.bytes c.self.invariant c.in_ok-copy_nodes.ensures.rows
    (root_copied c.self.inside.root c.in_ok-copy.field-0 c.self.inside.nodes.entries c.in_ok-copy_nodes.field-0.entries c.in_ok-copy.ensures c.in_ok-copy_nodes.ensures.names)).1
