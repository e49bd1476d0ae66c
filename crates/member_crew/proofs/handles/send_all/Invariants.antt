-- So far the first members were sent, and the others are here.
use Rattle.std.specs.Prelude.{length}
use Rattle.member_crew.specs.MemberHandles.{WentAway}
use Rattle.member_crew.proofs.ListLaws.{Moved}
use Rattle.member_crew.proofs.handles.send_all.Given as goal

abbrev pub invariant-loop-member : goal.invariant-loop-member
invariant-loop-member g l = Moved (WentAway g.M.TakesTurns.turns) l.fn.members l.members l.handles

abbrev pub decreases-loop-member : goal.decreases-loop-member
decreases-loop-member g l = length l.members
