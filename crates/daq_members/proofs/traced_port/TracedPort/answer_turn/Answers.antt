use Rattle.std.proofs.Common.{ap, sym, ◌∙◌}
use Rattle.member_model.specs.Moments.{moments_answered}
use Rattle.daq_members.specs.TracedPorts.{ActsDone, acts_since}
use Rattle.daq_members.proofs.TracedLaws.{answered_moments, since_push}
use Rattle.daq_members.proofs.traced_port.TracedPort.answer_turn.Goals as goal

pub invariant_of-self : goal.invariant_of-self
invariant_of-self g c =
    let was = c.self.inside in
    ap (λ (d : ActsDone). d.calls) (since_push (g.P.BufferPort.access was.first.value) was.acts c.more.new.self 2 c.more.ensures) ∙ c.self.invariant

pub returns-then-is_some-clause-moments : goal.returns-then-is_some-clause-moments
returns-then-is_some-clause-moments g c =
    let was = c.self.inside in
    let first = g.P.BufferPort.access was.first.value in
    let done : ActsDone = acts_since first was.acts in
    rw (← c.self.view_is)
    (ap (λ (d : ActsDone). d.moments) (since_push first was.acts c.more.new.self 2 c.more.ensures)
    ∙ (answered_moments done.moments c.args.answer.now done.calls (sym c.is_some.ensures ∙ c.if-is_some.true)
    ∙ ap (moments_answered done.moments c.args.answer.now) c.self.invariant))
