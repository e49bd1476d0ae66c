use Rattle.std.proofs.Common.{◌≡◌, ◌++◌, take}
use Rattle.odb_value.specs.KeyTexts.{item_lines}
use Rattle.odb_value.proofs.key_texts.add_item_lines.Given as goal

abbrev pub invariant-loop-index : goal.invariant-loop-index
invariant-loop-index l = l.text ≡ l.initial.text ++ item_lines l.size 0 (take l.index l.items)
