-- So far so many members took their turns.
use Rattle.std.specs.Prelude.{◌≡◌}
use Rattle.member_crew.specs.Turns.{TurnsOn}
use Rattle.member_crew.specs.Crews.{TurnFrom}
use Rattle.member_crew.proofs.crew.Crew.turn_all.Given as goal

abbrev pub invariant-loop-step : goal.invariant-loop-step
invariant-loop-step g l = record {
  turns : TurnFrom (TurnsOn g.M.TakesTurns.turns) l.first l.step l.initial.self.members l.self.members;
  pick : l.self.pick ≡ l.initial.self.pick;
}
