use Rattle.std.proofs.Common.{length}
use Rattle.odb_value.specs.PathText.{behind_slash, names_start}
use Rattle.odb_value.proofs.Reading.{IsReadTo}
use Rattle.odb_value.proofs.paths.path_fault.Given as goal

abbrev pub invariant-loop-at : goal.invariant-loop-at
invariant-loop-at l = IsReadTo (behind_slash l.text) (names_start l.text) l.depth l.rest l.place

abbrev pub decreases-loop-at : goal.decreases-loop-at
decreases-loop-at l = length l.rest
