-- What an arena has inside.
use Rattle.odb_tree.specs.Rows.{Rows}
use Rattle.odb_arena.specs.Arena.{row_of, names_at, all_rows, IsArena}
use Rattle.odb_arena.specs.declared.tree.ArenaTree.TheInside.{Inside}

abbrev pub rows_of : Inside → Rows
rows_of t = all_rows (row_of t.nodes.entries) t.next

abbrev pub IsWholeArena : Inside → Type 0
IsWholeArena t = IsArena (row_of t.nodes.entries) (names_at t.root t.nodes.entries) t.next t.count t.bytes
