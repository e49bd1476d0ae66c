-- So far the banks of the first events are counted.
use Rattle.std.proofs.Common.{◌≤◌, ◌+◌, ◌*◌, ◌^◌}
use Rattle.event_builder.proofs.JoinedBanks.{CountedTo}
use Rattle.event_builder.proofs.joining.built_size.Given as goal

abbrev pub invariant-loop-input : goal.invariant-loop-input
invariant-loop-input l = record {
  counted : CountedTo l.inputs l.input-index l.size;
  small : l.size ≤ 8 + l.input-index * 2 ^ 34;
}
