use Rattle.std.specs.Prelude.{◌≡◌, false, length}
use Rattle.std.proofs.Common.{ap, arith, subst}
use Rattle.member_crew.specs.Turns.{EndsFrom, MemberSoFar, so_far}
use Rattle.member_crew.specs.MemberHandles.{CameFrom, HandleSeen}
use Rattle.member_crew.proofs.ListLaws.{all_moved, moved_count, none_moved, one_moved}
use Rattle.member_crew.proofs.TurnLaws.{ends_so}
use Rattle.member_crew.proofs.handles.MemberHandles.call_back.Goals.{in-Err, in-Ok}
use Rattle.member_crew.proofs.handles.MemberHandles.call_back.Goals as goal

pub push-requires : goal.push-requires
push-requires g c =
    let count = moved_count (CameFrom g.M.TakesTurns.turns) c.args.self.now c.loop-handle.self-inside.handles c.loop-handle.back c.in-Some.handle c.loop-handle.invariant c.in-Some.ensures.first in
    omega (arith, count, ap length c.self.view_is, c.self.invariant)

pub loop-handle-init : goal.loop-handle-init
loop-handle-init g c = none_moved (CameFrom g.M.TakesTurns.turns) c.args.self.now c.self.inside.handles c.args.back.now c.self.view_is c.requires

pub loop-handle-preserved : goal.loop-handle-preserved
loop-handle-preserved g c =
    let turns = g.M.TakesTurns.turns in
    let handle = c.in-Some.handle in
    let came : CameFrom turns handle c.finish.result = elim c.match-thread.branch [
      | in-Ok w ↦
          let was : so_far w.in-Ok.thread.promise.was.value false ≡ handle.known = ap (λ (seen : HandleSeen g.row.M.Denot). seen.known) (rw w.in-Ok.is at c.handle.view_is) in
          let ends : EndsFrom turns w.join-came.result.ended w.join-came.result.member c.finish.result = rw w.came-is at c.finish.ensures in
          subst (λ (x : MemberSoFar g.row.M.Denot). EndsFrom turns x.ended x.member c.finish.result) was
          (ends_so turns w.join-came.result.ended w.in-Ok.thread.promise.was.value w.join-came.result.member c.finish.result w.join-came.ensures ends)
      | in-Err w ↦
          let was : so_far w.in-Err.here.member w.in-Err.here.ended ≡ handle.known = ap (λ (seen : HandleSeen g.row.M.Denot). seen.known) (rw w.in-Err.is at c.handle.view_is) in
          let ends : EndsFrom turns w.in-Err.here.ended w.in-Err.here.member c.finish.result = rw w.came-is at c.finish.ensures in
          subst (λ (x : MemberSoFar g.row.M.Denot). EndsFrom turns x.ended x.member c.finish.result) was ends
    ] in
    one_moved (CameFrom turns) c.args.self.now c.loop-handle.self-inside.handles c.take_first.new.self c.loop-handle.back c.push.new.self handle c.finish.result c.in-Some.ensures.first c.in-Some.ensures.rest
    c.push.ensures c.loop-handle.invariant came

pub returns : goal.returns
returns g c = all_moved (CameFrom g.M.TakesTurns.turns) c.args.self.now c.loop-handle.self-inside.handles c.loop-handle.back c.in_default.ensures.first c.loop-handle.invariant
