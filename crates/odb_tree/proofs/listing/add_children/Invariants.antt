use Rattle.std.proofs.Common.{◌≡◌, ◌++◌, map, take}
use Rattle.std.specs.List.{filter}
use Rattle.odb_tree.specs.Rows.{is_listed}
use Rattle.odb_tree.specs.Calls.{child_of}
use Rattle.odb_tree.proofs.listing.add_children.Given as goal

abbrev pub invariant-loop-row : goal.invariant-loop-row
invariant-loop-row l = l.children.items ≡ l.initial.children.items ++ map child_of (filter (is_listed l.keys l.names) (take l.row-index l.rows))
