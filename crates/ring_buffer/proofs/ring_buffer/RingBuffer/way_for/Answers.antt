use Rattle.ring_buffer.proofs.GivenEvents.{ring_read}
use Rattle.ring_buffer.proofs.WholeWalk.{whole_walk}
use Rattle.ring_buffer.proofs.ring_buffer.RingBuffer.way_for.Goals as goal

pub find_way-requires-clause-walk : goal.find_way-requires-clause-walk
find_way-requires-clause-walk c = whole_walk c.self.inside c.self.invariant

pub invariant_of-self : goal.invariant_of-self
invariant_of-self c = ring_read c.self.inside c.find_way.new.ring c.find_way.ensures.same c.self.invariant
