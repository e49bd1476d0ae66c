use Rattle.std.specs.Prelude.{ℕ, ◌∷◌}
use Rattle.std.proofs.Common.{ap, ◌∙◌}
use Rattle.daq_members.specs.TracedPorts.{ActsDone, acts_since}
use Rattle.daq_members.proofs.TracedLaws.{since_push}
use Rattle.daq_members.proofs.traced_port.TracedPort.take_turn.Goals as goal

pub invariant_of-self : goal.invariant_of-self
invariant_of-self g c =
    let was = c.self.inside in
    ap (λ (d : ActsDone). d.calls) (since_push (g.P.BufferPort.access was.first.value) was.acts c.more.new.self 1 c.more.ensures) ∙ c.self.invariant

pub returns-clause-moments : goal.returns-clause-moments
returns-clause-moments g c =
    let was = c.self.inside in
    rw (← c.self.view_is)
    (ap (λ (d : ActsDone). d.moments) (since_push (g.P.BufferPort.access was.first.value) was.acts c.more.new.self 1 c.more.ensures) ∙ ap (λ (n : ℕ). n ∷ (acts_since (g.P.BufferPort.access was.first.value) was.acts).moments) c.self.invariant)
