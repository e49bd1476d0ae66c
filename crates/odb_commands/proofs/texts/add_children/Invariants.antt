use Rattle.std.proofs.Common.{◌≡◌, ◌++◌, take}
use Rattle.odb_commands.specs.Texts.{child_lines}
use Rattle.odb_commands.proofs.texts.add_children.Given as goal

abbrev pub invariant-loop-child : goal.invariant-loop-child
invariant-loop-child l = l.text ≡ l.initial.text ++ child_lines (take l.child-index l.children)
