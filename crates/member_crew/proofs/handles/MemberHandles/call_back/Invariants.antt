-- So far the first members came back.
use Rattle.std.specs.Prelude.{length}
use Rattle.member_crew.specs.MemberHandles.{CameFrom}
use Rattle.member_crew.proofs.ListLaws.{Moved}
use Rattle.member_crew.proofs.handles.MemberHandles.call_back.Given as goal

abbrev pub invariant-loop-handle : goal.invariant-loop-handle
invariant-loop-handle g l = Moved (CameFrom g.M.TakesTurns.turns) l.fn.self l.self-inside.handles l.back

abbrev pub decreases-loop-handle : goal.decreases-loop-handle
decreases-loop-handle g l = length l.self-inside.handles
