use Rattle.event_builder.specs.Inputs.{ReceivesInput}
use Rattle.event_builder.proofs.Stepped.{lent_at, stepped}
use Rattle.event_builder.proofs.receiving.receive_at.Goals as goal

pub returns-clause-reads : goal.returns-clause-reads
returns-clause-reads g c =
    stepped (ReceivesInput c.args.start c.args.request c.receive_input.result) g.P.BufferPort.access c.args.number c.args.inputs.now c.args.ports.now c.in-Some.input.now c.receive_input.new.input c.in-Some-get_mut.port.now c.receive_input.new.port
    (lent_at c.args.inputs.now c.args.number c.in-Some.input.now c.requires.input c.in-Some.ensures.entry.1)
    (lent_at c.args.ports.now c.args.number c.in-Some-get_mut.port.now c.requires.port c.in-Some-get_mut.ensures.entry.1) c.receive_input.ensures
