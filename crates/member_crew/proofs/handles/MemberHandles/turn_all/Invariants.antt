-- So far the members below the place had their round.
use Rattle.member_crew.specs.MemberHandles.{TurnsIfHere}
use Rattle.member_crew.proofs.ListLaws.{ChangedBelow}
use Rattle.member_crew.proofs.handles.MemberHandles.turn_all.Given as goal

abbrev pub invariant-loop-place : goal.invariant-loop-place
invariant-loop-place g l = ChangedBelow (TurnsIfHere g.M.TakesTurns.turns) l.place l.initial.self l.self
