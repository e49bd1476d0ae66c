use Rattle.std.proofs.Common.{◌≡◌, take}
use Rattle.odb_arena.proofs.directory.copy_names.Given as goal

abbrev pub invariant-loop-i : goal.invariant-loop-i
invariant-loop-i l = l.copy.entries ≡ take l.i l.names.entries
