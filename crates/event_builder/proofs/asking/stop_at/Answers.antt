use Rattle.event_builder.specs.Inputs.{StopsInput}
use Rattle.event_builder.proofs.Stepped.{lent_at, stepped}
use Rattle.event_builder.proofs.asking.stop_at.Goals as goal

pub returns-clause-stops : goal.returns-clause-stops
returns-clause-stops g c =
    stepped StopsInput g.P.BufferPort.access c.args.number c.args.inputs.now c.args.ports.now c.in-Some.input.now c.stop_input.new.input c.in-Some-get_mut.port.now c.stop_input.new.port
    (lent_at c.args.inputs.now c.args.number c.in-Some.input.now c.requires.input c.in-Some.ensures.entry.1)
    (lent_at c.args.ports.now c.args.number c.in-Some-get_mut.port.now c.requires.port c.in-Some-get_mut.ensures.entry.1) c.stop_input.ensures
