use Rattle.std.proofs.Common.{ℕ, Ok, sym, subst}
use Rattle.buffer_core.specs.declared.gate.RunGate.{RunGate}
use Rattle.buffer_core.specs.declared.gate.RunGate.TheVariants.{Running}
use Rattle.buffer_core.specs.declared.entry.BufferEntry.TheVariants.{Begin}
use Rattle.buffer_core.specs.Window.{accepted_of}
use Rattle.buffer_core.proofs.WindowKept.{window_stays}
use Rattle.plain_buffer.specs.Plain.{plain_window, IsPlain}
use Rattle.plain_buffer.proofs.Stays.{plain_gate}
use Rattle.plain_buffer.proofs.plain.PlainBufferEventBuffer.begin.Goals as goal

pub invariant_of-self : goal.invariant_of-self
invariant_of-self c =
    let accepted : ℕ = accepted_of (plain_window c.self.inside) in
    subst (λ (gate : RunGate). IsPlain (record c.self.inside { gate = gate; last = c.args.start })) (sym c.in_ok-self-inside.ensures.gate)
    (plain_gate c.self.inside (Running c.args.start) c.args.start c.self.invariant
    (window_stays (plain_window c.self.inside) (Begin c.args.start (Ok accepted)) c.self.invariant.kept (sym (c.in_ok-self-inside.ensures.begins accepted))))
