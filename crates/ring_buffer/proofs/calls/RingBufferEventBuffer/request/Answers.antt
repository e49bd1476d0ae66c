use Rattle.ring_buffer.proofs.Clients.{request_ring, request_after}
use Rattle.ring_buffer.proofs.Sending.{window_seen}
use Rattle.ring_buffer.proofs.calls.RingBufferEventBuffer.request.Goals as goal

pub invariant_of-self : goal.invariant_of-self
invariant_of-self c = request_ring c.self.inside c.request.new.self c.args.client c.args.id c.args.mask c.args.kind c.request.result c.self.invariant c.request.ensures.reply c.request.ensures.ok c.request.ensures.err

pub returns-clause-after : goal.returns-clause-after
returns-clause-after c = request_after c.self.inside c.args.self.now.window c.request.new.self c.args.client c.args.id c.args.mask c.args.kind c.request.result (window_seen c.self.inside c.args.self.now c.self.view_is) c.self.invariant c.request.ensures.ok c.request.ensures.err
