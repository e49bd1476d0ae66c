use Rattle.std.proofs.Common.{length}
use Rattle.daq_std.proofs.ByteSteps.{TookAllBut}
use Rattle.daq_std.proofs.again.write_whole.Given as goal

abbrev pub invariant-loop-rest : goal.invariant-loop-rest
invariant-loop-rest g l = TookAllBut (g.W.Write.contents l.fn.to.writer) (g.W.Write.contents l.to.writer) l.fn.to.taken l.to.taken l.rest l.fn.bytes

abbrev pub decreases-loop-rest : goal.decreases-loop-rest
decreases-loop-rest g l = length l.rest
