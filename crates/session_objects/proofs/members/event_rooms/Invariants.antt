use Rattle.std.proofs.Common.{◌≡◌, take}
use Rattle.session_objects.specs.Members.{event_rooms}
use Rattle.session_objects.proofs.members.event_rooms.Given as goal

abbrev pub invariant-loop-channel : goal.invariant-loop-channel
invariant-loop-channel l = l.rooms.items ≡ event_rooms l.buffers (take l.channel-index l.channels)
