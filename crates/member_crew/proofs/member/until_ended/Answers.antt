use Rattle.std.proofs.Common.{rules}
use Rattle.member_crew.specs.Turns.{GoesOn}
use Rattle.member_crew.proofs.TurnLaws.{turn_more}
use Rattle.member_crew.proofs.member.until_ended.Goals as goal

pub returns-in-Ended : goal.returns-in-Ended
returns-in-Ended g c = record { between = c.loop.member; on = c.loop.invariant; last = rw c.in-Ended.is at c.turn.ensures }

pub loop-preserved-in-Worked : goal.loop-preserved-in-Worked
loop-preserved-in-Worked g c =
    turn_more (GoesOn g.M.TakesTurns.turns) c.args.member.now c.loop.member c.turn.new.self c.turn.result c.loop.invariant (c.turn.ensures, λ is. absurd (cc (is, c.in-Worked.is)))

pub loop-preserved : goal.loop-preserved
loop-preserved g c =
    turn_more (GoesOn g.M.TakesTurns.turns) c.args.member.now c.loop.member c.turn.new.self c.turn.result c.loop.invariant (c.turn.ensures, λ is. absurd (cc (is, c.in-Idle.is)))
