use Rattle.std.specs.Prelude.{suc}
use Rattle.std.proofs.Common.{ap, ◌∙◌, rules}
use Rattle.front_ends.specs.Fronts.{FrontState}
use Rattle.daq_members.specs.FrontTaken.{StepsFront}
use Rattle.daq_members.specs.TracedPorts.{ActsDone}
use Rattle.daq_members.proofs.FrontMemberLaws.{steps_so, stepped_stands}
use Rattle.daq_members.proofs.TracedLaws.{called_once, since_push}
use Rattle.daq_members.proofs.traced_port.TracedPort.step.Goals as goal

-- `c.step-step` is the front-end's own step.
steps : (g : _) (c : goal.After-more g) → StepsFront (g.X.Equipment.makes c.args.front.now.equipment) c.args.front.now.run c.step-step.new.self.run (g.P.BufferPort.access c.self.inside.port) (g.P.BufferPort.access c.step-step.new.port) c.step-step.result
steps g c =
    let did = c.step-step.ensures in
    steps_so (g.X.Equipment.makes c.args.front.now.equipment) c.args.front.now.run c.step-step.new.self.run (g.P.BufferPort.access c.self.inside.port) (g.P.BufferPort.access c.step-step.new.port) c.step-step.result
    did.nothing.1 (λ idle. ap (λ (f : FrontState _). f.run) (did.idle idle)) did.quiet did.sends

pub invariant_of-self : goal.invariant_of-self
invariant_of-self g c =
    let was = c.self.inside in
    let front = c.args.front.now in
    ap (λ (d : ActsDone). d.calls) (since_push (g.P.BufferPort.access was.first.value) was.acts c.more.new.self 0 c.more.ensures)
    ∙ (ap suc c.self.invariant
    ∙ called_once (g.X.Equipment.makes front.equipment) front.run c.step-step.new.self.run (g.P.BufferPort.access was.port) (g.P.BufferPort.access c.step-step.new.port) c.step-step.result (steps g c) (search rules))

pub returns-then-ne-clause-moments : goal.returns-then-ne-clause-moments
returns-then-ne-clause-moments g c =
    let was = c.self.inside in
    rw (← c.self.view_is) (ap (λ (d : ActsDone). d.moments) (since_push (g.P.BufferPort.access was.first.value) was.acts c.more.new.self 0 c.more.ensures))

pub returns-then-ne-clause-keeps : goal.returns-then-ne-clause-keeps
returns-then-ne-clause-keeps g c =
    let front = c.args.front.now in
    let did = c.step-step.ensures in
    rw (← c.self.view_is)
    (λ client name calls moments sets member.
    stepped_stands client name (g.X.Equipment.takes front.equipment) (g.X.Equipment.makes front.equipment) front.run c.step-step.new.self.run
    (g.P.BufferPort.access c.self.inside.port) (g.P.BufferPort.access c.step-step.new.port) c.step-step.result calls moments sets (steps g c) member
    (rw (did.takes, did.makes) at did.keeps _ member.stands)
    (did.moments _ moments member.stands member.kept))
