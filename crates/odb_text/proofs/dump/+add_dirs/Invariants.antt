use Rattle.std.proofs.Common.{◌≡◌, ◌-◌, ◌++◌, take}
use Rattle.std.specs.List.{flat_map}
use Rattle.odb_text.specs.Standing.{dir_part}
use Rattle.odb_text.proofs.dump.+add_dirs.Given as goal

abbrev pub decreases-add_dirs : goal.decreases-add_dirs
decreases-add_dirs g l = l.depth

abbrev pub invariant-loop-child : goal.invariant-loop-child
invariant-loop-child g l =
    l.text ≡ l.initial.text ++ flat_map (dir_part (l.depth - 1) (g.D.Database.rows l.database) l.path) (take l.child-index l.child-items)
