-- So far the front-ends before this one are declared.
use Rattle.std.specs.Prelude.{◌≡◌, ◌++◌}
use Rattle.midas_tools.specs.Scripts.{equip_lines}
use Rattle.midas_tools.proofs.script.add_equips.Given as goal

abbrev pub invariant-loop-before : goal.invariant-loop-before
invariant-loop-before l = l.script ≡ l.fn.script ++ equip_lines l.before
