use Rattle.std.proofs.Common.{◌≡◌, None, replicate}
use Rattle.loggers.proofs.slots.no_channels.Given as goal

abbrev pub invariant-loop-number : goal.invariant-loop-number
invariant-loop-number l = l.slots ≡ replicate l.number None
