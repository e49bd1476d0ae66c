use Rattle.ring_buffer.proofs.Clients.{detach_ring, detach_after}
use Rattle.ring_buffer.proofs.Sending.{window_seen}
use Rattle.ring_buffer.proofs.calls.RingBufferEventBuffer.detach.Goals as goal

pub invariant_of-self : goal.invariant_of-self
invariant_of-self c = detach_ring c.self.inside c.detach.new.self c.args.client c.detach.result c.self.invariant c.detach.ensures.reply c.detach.ensures.ok c.detach.ensures.err

pub returns-clause-after : goal.returns-clause-after
returns-clause-after c = detach_after c.self.inside c.args.self.now.window c.detach.new.self c.args.client c.detach.result (window_seen c.self.inside c.args.self.now c.self.view_is) c.detach.ensures.ok c.detach.ensures.err
