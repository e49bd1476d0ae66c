use Rattle.std.specs.Prelude.{refl}
use Rattle.front_ends.proofs.FrontTurns.{turn_kept, within_after}
use Rattle.front_ends.proofs.FrontMoments.{turn_moments}
use Rattle.front_ends.proofs.front_end.FrontEnd.on_turn.Goals as goal

pub invariant_of-self : goal.invariant_of-self
invariant_of-self g c = (
  c.self.invariant.0,
  c.self.invariant.1,
  rw c.run_behind_turn-self-inside.ensures (within_after c.check-takes.result c.self.inside.run c.args.transition c.args.order.now c.self.invariant.2),
)

pub returns-clause-answer : goal.returns-clause-answer
returns-clause-answer g c = rw (← c.self.view_is, ← c.check-takes.ensures) c.answer_of_turn-answer.ensures

pub returns-clause-after : goal.returns-clause-after
returns-clause-after g c = rw (← c.self.view_is, ← c.check-takes.ensures, c.run_behind_turn-self-inside.ensures) refl

pub returns-clause-keeps : goal.returns-clause-keeps
returns-clause-keeps g c = λ own dump turns none stands.
    rw (c.run_behind_turn-self-inside.ensures, c.answer_of_turn-answer.ensures)
    (turn_kept dump (g.X.Equipment.takes c.self.inside.equipment) (g.X.Equipment.makes c.self.inside.equipment) c.check-takes.result c.self.inside.run own turns c.args.transition c.args.order.now c.check-takes.ensures none
    (rw (← c.self.view_is) at stands))

pub returns-clause-moments : goal.returns-clause-moments
returns-clause-moments g c = λ own dump turns moments keeps. turn_moments own turns moments keeps
