-- So far the channels of the last specs are put at their numbers.
use Rattle.std.proofs.Common.{◌≡◌, ◌-◌, length, take}
use Rattle.loggers.proofs.NewSlots.{AddedFrom}
use Rattle.loggers.proofs.slots.new_channels.Given as goal

abbrev pub invariant-loop-count : goal.invariant-loop-count
invariant-loop-count l = record {
  left : l.specs ≡ take (length l.fn.specs - l.count) l.fn.specs;
  added : AddedFrom l.fn.specs l.rooms (length l.fn.specs - l.count) l.slots;
}
