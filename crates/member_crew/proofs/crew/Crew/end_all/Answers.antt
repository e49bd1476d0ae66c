use Rattle.std.specs.Prelude.{length}
use Rattle.std.proofs.Common.{add-one, ap, arith, ◌∙◌}
use Rattle.member_crew.specs.Turns.{MemberSoFar}
use Rattle.member_crew.specs.Crews.{CrewInRounds}
use Rattle.member_crew.proofs.ListLaws.{all_changed, changed_below, changed_count}
use Rattle.member_crew.proofs.CrewLaws.{Ends, so_far_count}
use Rattle.member_crew.proofs.crew.Crew.end_all.Goals as goal

pub end_at-requires : goal.end_at-requires
end_at-requires g c =
    let count = changed_count (Ends g.M.TakesTurns.turns) c.loop-place.place c.args.self.now.members c.loop-place.self.members c.loop-place.invariant.ends in
    let all = so_far_count c.self.inside.members c.self.inside.ended in
    omega (arith, c.loop-place-test.true, c.len-place-end.ensures, ap (λ (crew : CrewInRounds (MemberSoFar g.row.M.Denot) g.row.K.Denot). length crew.members) c.self.view_is, all, count)

pub loop-place-preserved : goal.loop-place-preserved
loop-place-preserved g c = record {
  ends = rw add-one (changed_below (Ends g.M.TakesTurns.turns) c.loop-place.place c.args.self.now.members c.loop-place.self.members c.end_at.new.self.members c.loop-place.invariant.ends c.end_at.ensures.ends);
  pick = c.end_at.ensures.pick ∙ c.loop-place.invariant.pick;
}

pub returns-clause-ends : goal.returns-clause-ends
returns-clause-ends g c =
    let all = so_far_count c.self.inside.members c.self.inside.ended in
    all_changed (Ends g.M.TakesTurns.turns) c.loop-place.place c.args.self.now.members c.loop-place.self.members c.loop-place.invariant.ends
    (omega (arith, c.loop-place-test.false, c.len-place-end.ensures, ap (λ (crew : CrewInRounds (MemberSoFar g.row.M.Denot) g.row.K.Denot). length crew.members) c.self.view_is, all))
