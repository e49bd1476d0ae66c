use Rattle.std.proofs.Common.{◌≡◌, ◌-◌, ◌^◌}
use Rattle.std.specs.Io.KnownBytes.{Keeps}
use Rattle.daq_std.proofs.again.write_once.Given as goal

-- each call so far was interrupted
abbrev pub invariant-loop-count : goal.invariant-loop-count
invariant-loop-count g l = Keeps (g.W.Write.contents l.fn.to.writer) (g.W.Write.contents l.to.writer) × (l.to.taken ≡ l.fn.to.taken)

abbrev pub decreases-loop-count : goal.decreases-loop-count
decreases-loop-count g l = 2 ^ 64 - l.interruptions
