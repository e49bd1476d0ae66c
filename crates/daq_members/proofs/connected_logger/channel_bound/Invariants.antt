-- So far no channel was found from the bound on.
use Rattle.std.specs.Prelude.{◌≤◌}
use Rattle.daq_members.proofs.ChannelBounds.{NoneBetween}
use Rattle.daq_members.proofs.connected_logger.channel_bound.Given as goal

abbrev pub invariant-loop-number : goal.invariant-loop-number
invariant-loop-number l = record {
  few : l.bound ≤ l.number;
  within : l.number ≤ 16;
  none : NoneBetween l.bound l.number l.logger.channels;
}
