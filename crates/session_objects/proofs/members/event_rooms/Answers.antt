use Rattle.session_objects.proofs.members.event_rooms.Goals as goal

pub bounds-channels-channel-index : goal.bounds-channels-channel-index
bounds-channels-channel-index c = c.loop-channel-test.true
