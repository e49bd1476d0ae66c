use Rattle.ring_buffer.proofs.Clients.{attached_reply, attach_ring, attach_after}
use Rattle.ring_buffer.proofs.Sending.{window_seen}
use Rattle.ring_buffer.proofs.calls.RingBufferEventBuffer.attach.Goals as goal

pub invariant_of-self : goal.invariant_of-self
invariant_of-self c = attach_ring c.self.inside c.attach.new.self c.args.name c.attach.result c.self.invariant c.attach.ensures.reply c.attach.ensures.ok c.attach.ensures.err

pub returns-clause-reply : goal.returns-clause-reply
returns-clause-reply c = attached_reply c.self.inside c.args.self.now.window c.attach.result (window_seen c.self.inside c.args.self.now c.self.view_is) c.attach.ensures.reply

pub returns-clause-after : goal.returns-clause-after
returns-clause-after c = attach_after c.self.inside c.args.self.now.window c.attach.new.self c.args.name c.attach.result (window_seen c.self.inside c.args.self.now c.self.view_is) c.self.invariant c.attach.ensures.ok c.attach.ensures.err
