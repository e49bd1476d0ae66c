use Rattle.daq_std.proofs.ByteSteps.{on_err, took_part}
use Rattle.daq_std.proofs.again.write_whole.Goals as goal

pub returns-in_err-count-clause-part : goal.returns-in_err-count-clause-part
returns-in_err-count-clause-part g c = on_err c.from_residual.result (took_part _ _ c.loop-rest.invariant c.in_err-count.ensures.bytes c.in_err-count.ensures.taken)
