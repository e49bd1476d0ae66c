use Rattle.std.specs.Prelude.{◌≡◌, suc, length, Some}
use Rattle.std.proofs.Common.{ap, sym, ◌∙◌}
use Rattle.front_ends.specs.declared.front_run.FrontRun.{FrontRun}
use Rattle.front_ends.proofs.FrontSteps.{step_kept, work_left, at_work, not_at_rest, step_made, within_sent}
use Rattle.front_ends.proofs.FrontMoments.{step_moments}
use Rattle.front_ends.proofs.front_end.FrontEnd.step.Goals as goal

pub returns-clause-keeps : goal.returns-clause-keeps
returns-clause-keeps g c = λ turns stands.
    let work = at_work c.in-Some.run' c.if-run.false (sym c.has_done.ensures ∙ c.if-has_done.false) in
    let later = rw (← c.self-2.view_is) at c.send_next-reply.ensures.makes in
    let makes = rw (← c.self.view_is) at later in
    let later_takes = rw (← c.self-2.view_is) at c.send_next-reply.ensures.takes in
    let takes = rw (← c.self.view_is) at later_takes in
    let own = rw (← c.self.view_is) at c.send_next-reply.ensures.sent.own in
    let kept = step_kept (g.X.Equipment.takes c.self.inside.equipment) (g.X.Equipment.makes c.self.inside.equipment) (g.P.BufferPort.access c.args.port.now).own turns c.in-Some.run' c.send_next-reply.result
    (work_left c.in-Some.run' (sym c.has_done.ensures ∙ c.if-has_done.false)) work (rw (← c.self.view_is, c.in-Some.is) at stands) in
    rw (makes, takes, c.run_behind_send.ensures, own) kept

pub returns-clause-moments : goal.returns-clause-moments
returns-clause-moments g c = λ turns moments stands keeps.
    let work = at_work c.in-Some.run' c.if-run.false (sym c.has_done.ensures ∙ c.if-has_done.false) in
    let own = rw (← c.self.view_is) at c.send_next-reply.ensures.sent.own in
    rw own
    (step_moments (g.X.Equipment.takes c.self.inside.equipment) (g.X.Equipment.makes c.self.inside.equipment) (g.P.BufferPort.access c.args.port.now).own turns moments c.in-Some.run'
    (length (g.X.Equipment.makes c.self.inside.equipment c.in-Some.run'.order (suc c.in-Some.run'.sent)).body) (g.X.Equipment.makes c.self.inside.equipment c.in-Some.run'.order (suc c.in-Some.run'.sent)) c.send_next-reply.result work
    (rw (← c.self.view_is, c.in-Some.is) at stands) keeps)

pub invariant_of-self : goal.invariant_of-self
invariant_of-self g c = (
  c.self-2.invariant.0,
  c.self-2.invariant.1,
  rw c.run_behind_send.ensures (within_sent c.in-Some.run' c.send_next-reply.result (work_left c.in-Some.run' (sym c.has_done.ensures ∙ c.if-has_done.false))),
)

pub send_next-reply-requires-clause-more : goal.send_next-reply-requires-clause-more
send_next-reply-requires-clause-more g c = work_left c.in-Some.run' (sym c.has_done.ensures ∙ c.if-has_done.false)

pub returns-clause-nothing : goal.returns-clause-nothing
returns-clause-nothing g c =
    let before : c.args.self.now.run ≡ Some c.in-Some.run' = rw (← c.self.view_is) c.in-Some.is in
    let work = at_work c.in-Some.run' c.if-run.false (sym c.has_done.ensures ∙ c.if-has_done.false) in
    (λ none. absurd (step_made c.send_next-reply.result c.step_of.result c.step_of.ensures none), λ rests. not_at_rest c.args.self.now.run c.in-Some.run' before work rests)

pub returns-clause-idle : goal.returns-clause-idle
returns-clause-idle g c = λ rests.
    let before : c.args.self.now.run ≡ Some c.in-Some.run' = rw (← c.self.view_is) c.in-Some.is in
    let work = at_work c.in-Some.run' c.if-run.false (sym c.has_done.ensures ∙ c.if-has_done.false) in
    not_at_rest c.args.self.now.run c.in-Some.run' before work rests

pub returns-clause-quiet : goal.returns-clause-quiet
returns-clause-quiet g c = λ rests.
    let before : c.args.self.now.run ≡ Some c.in-Some.run' = rw (← c.self.view_is) c.in-Some.is in
    let work = at_work c.in-Some.run' c.if-run.false (sym c.has_done.ensures ∙ c.if-has_done.false) in
    not_at_rest c.args.self.now.run c.in-Some.run' before work rests

pub returns-clause-sends : goal.returns-clause-sends
returns-clause-sends g c = λ work.
    rw (← c.self.view_is)
    (record {
      run = c.in-Some.run';
      reply = c.send_next-reply.result;
      of = c.in-Some.is;
      sent = rw (← c.self.view_is) at c.send_next-reply.ensures.sent;
      step_is = c.step_of.ensures;
      after_is = ap (λ (r : FrontRun). Some r) c.run_behind_send.ensures;
    })
