use Rattle.std.proofs.Common.{◌≡◌, length, arith}
use Rattle.std.proofs.lemmas.List.{length-map}
use Rattle.event_builder.specs.Builders.{at_call}
use Rattle.event_builder.proofs.SameCounts.{AsMany, pull_many}
use Rattle.event_builder.proofs.builder.Builder.pull.Goals as goal

pub returns-clause-inputs : goal.returns-clause-inputs
returns-clause-inputs g c =
    (pull_many c.args.input c.args.self.now.limit (at_call g.P.BufferPort.access c.args.self.now c.args.ports.now) (at_call g.P.BufferPort.access c.pull_once.new.self c.pull_once.new.ports) c.pull_once.result c.pull_once.ensures.pulls).inputs

pub returns-clause-ports : goal.returns-clause-ports
returns-clause-ports g c =
    let many : AsMany (at_call g.P.BufferPort.access c.args.self.now c.args.ports.now).at (at_call g.P.BufferPort.access c.pull_once.new.self c.pull_once.new.ports).at =
    pull_many c.args.input c.args.self.now.limit (at_call g.P.BufferPort.access c.args.self.now c.args.ports.now) (at_call g.P.BufferPort.access c.pull_once.new.self c.pull_once.new.ports) c.pull_once.result c.pull_once.ensures.pulls in
    omega (arith, many.ports, length-map c.args.ports.now g.P.BufferPort.access, length-map c.pull_once.new.ports g.P.BufferPort.access)
