use Rattle.std.proofs.lemmas.Result.{on_ok_weaker, on_err_weaker}
use Rattle.event_builder.specs.Inputs.{AsksInput, RefusesInput}
use Rattle.event_builder.proofs.Stepped.{lent_at, stepped}
use Rattle.event_builder.proofs.asking.ask_at.Goals as goal

pub returns-clause-asks : goal.returns-clause-asks
returns-clause-asks g c =
    on_ok_weaker c.ask_input.result (stepped AsksInput g.P.BufferPort.access c.args.number c.args.inputs.now c.args.ports.now c.in-Some.input.now c.ask_input.new.input c.in-Some-get_mut.port.now c.ask_input.new.port
    (lent_at c.args.inputs.now c.args.number c.in-Some.input.now c.requires.input c.in-Some.ensures.entry.1)
    (lent_at c.args.ports.now c.args.number c.in-Some-get_mut.port.now c.requires.port c.in-Some-get_mut.ensures.entry.1)) c.ask_input.ensures.asks

pub returns-clause-refuses : goal.returns-clause-refuses
returns-clause-refuses g c =
    on_err_weaker c.ask_input.result (stepped RefusesInput g.P.BufferPort.access c.args.number c.args.inputs.now c.args.ports.now c.in-Some.input.now c.ask_input.new.input c.in-Some-get_mut.port.now c.ask_input.new.port
    (lent_at c.args.inputs.now c.args.number c.in-Some.input.now c.requires.input c.in-Some.ensures.entry.1)
    (lent_at c.args.ports.now c.args.number c.in-Some-get_mut.port.now c.requires.port c.in-Some-get_mut.ensures.entry.1)) c.ask_input.ensures.refuses
