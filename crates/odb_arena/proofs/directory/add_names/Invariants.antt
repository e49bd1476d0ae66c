use Rattle.std.proofs.Common.{◌≡◌, ◌++◌, map}
use Rattle.odb_arena.proofs.directory.add_names.Given as goal

abbrev pub invariant-loop-child : goal.invariant-loop-child
invariant-loop-child l = l.children.items ≡ l.initial.children.items ++ map (λ x. x.now) l.yielded
