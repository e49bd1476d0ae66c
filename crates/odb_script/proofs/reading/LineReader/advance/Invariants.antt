use Rattle.std.proofs.Common.{◌≡◌, ◌-◌}
use Rattle.odb_script.specs.Lines.{script_limit}
use Rattle.odb_script.proofs.LinesSoFar.{SoFar}
use Rattle.odb_script.proofs.reading.LineReader.advance.Given as goal

abbrev pub invariant-line : goal.invariant-line
invariant-line g l = record {
  so_far : SoFar l.fn.self l.self (g.S.Source.told l.fn.source) (g.S.Source.told l.source);
  faults : (g.S.Source.told l.source).faults ≡ (g.S.Source.told l.fn.source).faults;
}

abbrev pub decreases-line : goal.decreases-line
decreases-line g l = script_limit - l.self.taken
