use Rattle.std.proofs.Common.{◌≡◌, take}
use Rattle.odb_value.proofs.values.cloned.Given as goal

abbrev pub invariant-loop-item : goal.invariant-loop-item
invariant-loop-item l = l.copy.items ≡ take l.item-index l.fn.items
