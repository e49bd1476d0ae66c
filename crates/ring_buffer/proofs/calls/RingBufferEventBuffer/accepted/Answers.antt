use Rattle.std.proofs.Common.{ap, sym, subst, ◌∙◌}
use Rattle.buffer_core.specs.Window.{accepted_of, IsWindow}
use Rattle.ring_buffer.proofs.Sending.{window_seen, accepted_is}
use Rattle.ring_buffer.proofs.calls.RingBufferEventBuffer.accepted.Goals as goal

pub returns : goal.returns
returns c = record { reply = sym (accepted_is c.self.inside c.self.invariant) ∙ ap accepted_of (window_seen c.self.inside c.args.self.now c.self.view_is); window = subst IsWindow (window_seen c.self.inside c.args.self.now c.self.view_is) c.self.invariant.window }
