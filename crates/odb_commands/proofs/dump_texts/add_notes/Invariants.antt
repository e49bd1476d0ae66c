use Rattle.std.proofs.Common.{◌≡◌, ◌++◌, take}
use Rattle.odb_commands.specs.WatchTexts.{told_lines}
use Rattle.odb_commands.proofs.dump_texts.add_notes.Given as goal

abbrev pub invariant-loop-told : goal.invariant-loop-told
invariant-loop-told l = l.text ≡ l.initial.text ++ told_lines (take l.told-index l.notes)
