use Rattle.std.proofs.Common.{◌≡◌, ◌++◌, take}
use Rattle.std.specs.List.{flat_map}
use Rattle.odb_text.specs.Standing.{key_part}
use Rattle.odb_text.proofs.dump.add_children.Given as goal

abbrev pub invariant-loop-child : goal.invariant-loop-child
invariant-loop-child g l = l.text ≡ l.initial.text ++ flat_map (key_part (g.D.Database.rows l.database) l.path) (take l.child-index l.children)
