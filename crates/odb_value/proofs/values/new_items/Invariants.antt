use Rattle.std.proofs.Common.{◌≡◌}
use Rattle.std.specs.Prelude.{replicate}
use Rattle.odb_value.specs.ValueChanges.{default_item}
use Rattle.odb_value.proofs.values.new_items.Given as goal

abbrev pub invariant-loop-i : goal.invariant-loop-i
invariant-loop-i l = l.items.items ≡ replicate l.i (default_item l.tid)
