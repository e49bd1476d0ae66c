use Rattle.std.proofs.Common.{◌≡◌}
use Rattle.odb_watch.specs.Keeping.{with_notes}
use Rattle.odb_watch.proofs.keeping.keep_items.Given as goal

abbrev pub invariant-loop-i : goal.invariant-loop-i
invariant-loop-i l = l.watch ≡ with_notes l.initial.watch l.row l.first l.i
