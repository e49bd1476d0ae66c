use Rattle.std.proofs.Common.{◌≡◌, length, arith}
use Rattle.std.proofs.lemmas.List.{length-map}
use Rattle.event_builder.specs.Builders.{at_call}
use Rattle.event_builder.proofs.SameCounts.{AsMany, turn_many}
use Rattle.event_builder.proofs.builder.Builder.on_turn.Goals as goal

pub returns-clause-inputs : goal.returns-clause-inputs
returns-clause-inputs g c =
    (turn_many c.args.transition c.args.order.now (at_call g.P.BufferPort.access c.args.self.now c.args.ports.now) (at_call g.P.BufferPort.access c.take_turn.new.self c.take_turn.new.ports) c.take_turn.result c.take_turn.ensures.turns).inputs

pub returns-clause-ports : goal.returns-clause-ports
returns-clause-ports g c =
    let many : AsMany (at_call g.P.BufferPort.access c.args.self.now c.args.ports.now).at (at_call g.P.BufferPort.access c.take_turn.new.self c.take_turn.new.ports).at =
    turn_many c.args.transition c.args.order.now (at_call g.P.BufferPort.access c.args.self.now c.args.ports.now) (at_call g.P.BufferPort.access c.take_turn.new.self c.take_turn.new.ports) c.take_turn.result c.take_turn.ensures.turns in
    omega (arith, many.ports, length-map c.args.ports.now g.P.BufferPort.access, length-map c.take_turn.new.ports g.P.BufferPort.access)
