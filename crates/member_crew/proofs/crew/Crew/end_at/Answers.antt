use Rattle.std.specs.Prelude.{◌<◌, length, slice_set}
use Rattle.std.proofs.Common.{ap, arith, refl, subst}
use Rattle.std.proofs.lemmas.Option.{slice_get-get_or, slice_get_read}
use Rattle.member_crew.specs.Turns.{ChangesPlace, MemberSoFar}
use Rattle.member_crew.specs.Crews.{CrewInRounds, members_so_far}
use Rattle.member_crew.proofs.CrewLaws.{Ends, ended_at, so_far_count}
use Rattle.member_crew.proofs.crew.Crew.end_at.Goals as goal

pub unreachable-requires : goal.unreachable-requires
unreachable-requires g c =
    let all = so_far_count c.self.inside.members c.self.inside.ended in
    let there : c.args.place < length c.self.inside.members = omega (arith, c.requires, all, ap (λ (crew : CrewInRounds (MemberSoFar g.row.M.Denot) g.row.K.Denot). length crew.members) c.self.view_is) in
    let never = c.in_default.ensures.variant.1 there in cc (never)

pub returns-clause-ends : goal.returns-clause-ends
returns-clause-ends g c =
    let members = c.self.inside.members in
    let ended = c.self.inside.ended in
    let member = c.in-Some.member.now in
    let all = so_far_count members ended in
    let there : c.args.place < length members = omega (arith, c.requires, all, ap (λ (crew : CrewInRounds (MemberSoFar g.row.M.Denot) g.row.K.Denot). length crew.members) c.self.view_is) in
    let noted : c.args.place < length ended = omega (arith, there, c.self.told, c.self.invariant.1) in
    subst (λ (seen : CrewInRounds (MemberSoFar g.row.M.Denot) g.row.K.Denot). ChangesPlace (Ends g.M.TakesTurns.turns) c.args.place seen.members (members_so_far (slice_set members c.args.place c.end_from.new.member) ended)) c.self.view_is
    (ended_at g.M.TakesTurns.turns members ended c.args.place member c.end_from.new.member _ (slice_get_read members (length members) c.args.place member refl there c.in-Some.ensures.entry.1) (slice_get-get_or ended c.args.place _ noted) c.end_from.ensures)
