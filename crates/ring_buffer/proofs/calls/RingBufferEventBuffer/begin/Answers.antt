use Rattle.std.proofs.Common.{ℕ, Ok, sym, subst}
use Rattle.buffer_core.specs.declared.gate.RunGate.{RunGate}
use Rattle.buffer_core.specs.declared.gate.RunGate.TheVariants.{Running}
use Rattle.buffer_core.specs.declared.entry.BufferEntry.TheVariants.{Begin}
use Rattle.buffer_core.specs.Window.{accepted_of}
use Rattle.buffer_core.proofs.WindowKept.{window_stays}
use Rattle.ring_buffer.specs.RingViews.{window_of, IsRingBuffer}
use Rattle.ring_buffer.proofs.GivenEvents.{with_run, ring_gate}
use Rattle.ring_buffer.proofs.calls.RingBufferEventBuffer.begin.Goals as goal

pub invariant_of-self : goal.invariant_of-self
invariant_of-self c =
    let accepted : ℕ = accepted_of (window_of c.self.inside) in
    subst (λ (gate : RunGate). IsRingBuffer (with_run c.self.inside gate c.args.start)) (sym c.in_ok-self-inside.ensures.gate)
    (ring_gate c.self.inside (Running c.args.start) c.args.start c.self.invariant
    (window_stays (window_of c.self.inside) (Begin c.args.start (Ok accepted)) c.self.invariant.window (sym (c.in_ok-self-inside.ensures.begins accepted))))
