-- So far the member had turns, none of which came to Ended.
use Rattle.member_crew.specs.Turns.{GoesOn, HadTurns}
use Rattle.member_crew.proofs.member.until_ended.Given as goal

abbrev pub invariant-loop : goal.invariant-loop
invariant-loop g l = HadTurns (GoesOn g.M.TakesTurns.turns) l.fn.member l.member
