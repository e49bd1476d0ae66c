use Rattle.std.proofs.Common.{add-one, ap, arith}
use Rattle.std.specs.Prelude.{length}
use Rattle.member_crew.specs.MemberHandles.{TurnsIfHere}
use Rattle.member_crew.proofs.ListLaws.{all_changed, changed_below, changed_count}
use Rattle.member_crew.proofs.handles.MemberHandles.turn_all.Goals as goal

pub turn_at-requires : goal.turn_at-requires
turn_at-requires g c =
    let count = changed_count (TurnsIfHere g.M.TakesTurns.turns) c.loop-place.place c.args.self.now c.loop-place.self c.loop-place.invariant in
    omega (arith, c.loop-place-test.true, c.len-place-end.ensures, ap length c.self.view_is, count)

pub loop-place-preserved : goal.loop-place-preserved
loop-place-preserved g c =
    rw add-one (changed_below (TurnsIfHere g.M.TakesTurns.turns) c.loop-place.place c.args.self.now c.loop-place.self c.turn_at.new.self c.loop-place.invariant c.turn_at.ensures)

pub returns : goal.returns
returns g c =
    all_changed (TurnsIfHere g.M.TakesTurns.turns) c.loop-place.place c.args.self.now c.loop-place.self c.loop-place.invariant
    (omega (arith, c.loop-place-test.false, c.len-place-end.ensures, ap length c.self.view_is))
