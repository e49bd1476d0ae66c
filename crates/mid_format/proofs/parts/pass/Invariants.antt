use Rattle.std.proofs.Common.{◌≡◌, length}
use Rattle.mid_format.proofs.PartsRead.{Passed}
use Rattle.mid_format.proofs.parts.pass.Given as goal

abbrev pub invariant-loop-rest : goal.invariant-loop-rest
invariant-loop-rest g l = record {
  passed : Passed (g.S.Source.told l.fn.source).left (g.S.Source.told l.source).left l.size l.rest;
  faults : (g.S.Source.told l.source).faults ≡ (g.S.Source.told l.fn.source).faults;
  origin : (g.S.Source.told l.source).origin ≡ (g.S.Source.told l.fn.source).origin;
  block : length l.block ≡ 4096;
}

abbrev pub decreases-loop-rest : goal.decreases-loop-rest
decreases-loop-rest g l = l.rest
