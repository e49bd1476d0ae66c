use Rattle.event_builder.specs.Inputs.{CancelsInput}
use Rattle.event_builder.proofs.Stepped.{lent_at, stepped}
use Rattle.event_builder.proofs.asking.cancel_at.Goals as goal

pub returns-clause-cancels : goal.returns-clause-cancels
returns-clause-cancels g c =
    stepped CancelsInput g.P.BufferPort.access c.args.number c.args.inputs.now c.args.ports.now c.in-Some.input.now c.cancel_input.new.input c.in-Some-get_mut.port.now c.cancel_input.new.port
    (lent_at c.args.inputs.now c.args.number c.in-Some.input.now c.requires.input c.in-Some.ensures.entry.1)
    (lent_at c.args.ports.now c.args.number c.in-Some-get_mut.port.now c.requires.port c.in-Some-get_mut.ensures.entry.1) c.cancel_input.ensures
