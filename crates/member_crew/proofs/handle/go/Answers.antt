use Rattle.member_crew.specs.Turns.{GoesOn}
use Rattle.member_crew.proofs.TurnLaws.{stays}
use Rattle.member_crew.proofs.handle.go.Goals as goal

pub returns-then-is_for : goal.returns-then-is_for
returns-then-is_for g c = stays (GoesOn g.M.TakesTurns.turns) c.args.member
