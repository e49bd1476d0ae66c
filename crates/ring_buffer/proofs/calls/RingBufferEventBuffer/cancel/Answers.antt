use Rattle.ring_buffer.proofs.Clients.{cancel_ring, cancel_after}
use Rattle.ring_buffer.proofs.Sending.{window_seen}
use Rattle.ring_buffer.proofs.calls.RingBufferEventBuffer.cancel.Goals as goal

pub invariant_of-self : goal.invariant_of-self
invariant_of-self c = cancel_ring c.self.inside c.cancel.new.self c.args.client c.args.request c.cancel.result c.self.invariant c.cancel.ensures.reply c.cancel.ensures.ok c.cancel.ensures.err

pub returns-clause-after : goal.returns-clause-after
returns-clause-after c = cancel_after c.self.inside c.args.self.now.window c.cancel.new.self c.args.client c.args.request c.cancel.result (window_seen c.self.inside c.args.self.now c.self.view_is) c.cancel.ensures.ok c.cancel.ensures.err
