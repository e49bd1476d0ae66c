use Rattle.std.proofs.Common.{◌≡◌, length, arith}
use Rattle.std.proofs.lemmas.List.{length-map}
use Rattle.event_builder.specs.Builders.{at_call}
use Rattle.event_builder.proofs.SameCounts.{AsMany, step_many, step_size}
use Rattle.event_builder.proofs.builder.Builder.step.Goals as goal

pub returns-clause-inputs : goal.returns-clause-inputs
returns-clause-inputs g c =
    (step_many c.args.self.now.run c.args.self.now.id c.args.self.now.mask (g.Q.BufferPort.access c.args.output.now) (g.Q.BufferPort.access c.step_once.new.output) (at_call g.P.BufferPort.access c.args.self.now c.args.ports.now)
    (at_call g.P.BufferPort.access c.step_once.new.self c.step_once.new.ports) c.step_once.result c.step_once.ensures.steps).inputs

pub returns-clause-ports : goal.returns-clause-ports
returns-clause-ports g c =
    let many : AsMany (at_call g.P.BufferPort.access c.args.self.now c.args.ports.now).at (at_call g.P.BufferPort.access c.step_once.new.self c.step_once.new.ports).at =
    step_many c.args.self.now.run c.args.self.now.id c.args.self.now.mask (g.Q.BufferPort.access c.args.output.now) (g.Q.BufferPort.access c.step_once.new.output) (at_call g.P.BufferPort.access c.args.self.now c.args.ports.now)
    (at_call g.P.BufferPort.access c.step_once.new.self c.step_once.new.ports) c.step_once.result c.step_once.ensures.steps in
    omega (arith, many.ports, length-map c.args.ports.now g.P.BufferPort.access, length-map c.step_once.new.ports g.P.BufferPort.access)

pub returns-clause-output : goal.returns-clause-output
returns-clause-output g c =
    step_size c.args.self.now.run c.args.self.now.id c.args.self.now.mask (g.Q.BufferPort.access c.args.output.now) (g.Q.BufferPort.access c.step_once.new.output) (at_call g.P.BufferPort.access c.args.self.now c.args.ports.now)
    (at_call g.P.BufferPort.access c.step_once.new.self c.step_once.new.ports) c.step_once.result c.step_once.ensures.steps
