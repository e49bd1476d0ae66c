use Rattle.std.proofs.Common.{◌≡◌, length}
use Rattle.daq_io.proofs.Writing.{AppendsAllBut}
use Rattle.daq_io.proofs.streams.write_all.Given as goal

abbrev pub invariant-loop-rest : goal.invariant-loop-rest
invariant-loop-rest g l = record {
  bytes : AppendsAllBut (g.O.Sink.told l.fn.out).written (g.O.Sink.told l.out).written l.rest l.fn.bytes;
  faults : (g.O.Sink.told l.out).faults ≡ (g.O.Sink.told l.fn.out).faults;
}

abbrev pub decreases-loop-rest : goal.decreases-loop-rest
decreases-loop-rest g l = length l.rest
