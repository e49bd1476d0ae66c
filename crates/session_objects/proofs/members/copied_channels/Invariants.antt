-- The channels so far were copied.
use Rattle.std.proofs.Common.{◌≡◌, take}
use Rattle.session_objects.proofs.members.copied_channels.Given as goal

abbrev pub invariant-loop-channel : goal.invariant-loop-channel
invariant-loop-channel l = l.copied ≡ take l.channel-index l.channels
