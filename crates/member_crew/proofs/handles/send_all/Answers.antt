use Rattle.std.proofs.Common.{arith}
use Rattle.std.proofs.lemmas.Slice.Zip.{AllZip-long}
use Rattle.member_crew.specs.MemberHandles.{WentAway}
use Rattle.member_crew.proofs.ListLaws.{all_moved, moved_count, one_moved}
use Rattle.member_crew.proofs.handles.send_all.Goals as goal

pub push-requires : goal.push-requires
push-requires g c =
    let count = moved_count (WentAway g.M.TakesTurns.turns) c.args.members c.loop-member.members c.loop-member.handles c.in-Some.member c.loop-member.invariant c.in-Some.ensures.first in
    (omega arith, omega (arith, count, c.requires.few))

pub loop-member-preserved : goal.loop-member-preserved
loop-member-preserved g c =
    one_moved (WentAway g.M.TakesTurns.turns) c.args.members c.loop-member.members c.take_first.new.self c.loop-member.handles c.push.new.self c.in-Some.member c.send.result c.in-Some.ensures.first
    c.in-Some.ensures.rest c.push.ensures c.loop-member.invariant c.send.ensures

pub invariant_of-result : goal.invariant_of-result
invariant_of-result g c =
    let went = WentAway g.M.TakesTurns.turns in
    let all = all_moved went c.args.members c.loop-member.members c.loop-member.handles c.in_default.ensures.first c.loop-member.invariant in
    omega (arith, AllZip-long went c.args.members c.loop-member.handles all, c.requires.few)

pub returns : goal.returns
returns g c = all_moved (WentAway g.M.TakesTurns.turns) c.args.members c.loop-member.members c.loop-member.handles c.in_default.ensures.first c.loop-member.invariant
