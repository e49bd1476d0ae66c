use Rattle.ring_buffer.proofs.RingLaws.{length-bytes_at}
use Rattle.ring_buffer.proofs.ring.Ring.get_data.Goals as goal

pub fill_with-requires-clause-whole : goal.fill_with-requires-clause-whole
fill_with-requires-clause-whole c = length-bytes_at _ _ _
