use Rattle.std.proofs.Common.{◌-◌, ◌^◌}
use Rattle.std.specs.Io.KnownBytes.{Keeps}
use Rattle.daq_std.proofs.again.read_once.Given as goal

-- each call so far was interrupted
abbrev pub invariant-loop-count : goal.invariant-loop-count
invariant-loop-count g l = Keeps (g.R.Read.remaining l.fn.reader) (g.R.Read.remaining l.reader)

abbrev pub decreases-loop-count : goal.decreases-loop-count
decreases-loop-count g l = 2 ^ 64 - l.interruptions
