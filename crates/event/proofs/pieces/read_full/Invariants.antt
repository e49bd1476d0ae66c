use Rattle.std.proofs.Common.{◌≡◌, ◌-◌, ◌≤◌, length, take}
use Rattle.std.specs.Io.KnownBytes.{Consumes}
use Rattle.event.proofs.pieces.read_full.Given as goal

abbrev pub invariant-loop-done : goal.invariant-loop-done
invariant-loop-done g l = record {
  within : l.done ≤ length l.into;
  consumed : Consumes (g.S.Source.told l.fn.source).left (g.S.Source.told l.source).left (take l.done l.into);
  same : length l.into ≡ length l.fn.into;
  faults : (g.S.Source.told l.source).faults ≡ (g.S.Source.told l.fn.source).faults;
  origin : (g.S.Source.told l.source).origin ≡ (g.S.Source.told l.fn.source).origin;
}

abbrev pub decreases-loop-done : goal.decreases-loop-done
decreases-loop-done g l = length l.into - l.done
