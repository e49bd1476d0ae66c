use Rattle.std.specs.Prelude.{◌<◌, length, slice_set}
use Rattle.std.proofs.Common.{ap, arith, refl, subst}
use Rattle.std.proofs.lemmas.Option.{slice_get-get_or, slice_get_read}
use Rattle.member_crew.specs.Turns.{MemberSoFar, TurnsAt, TurnsOn}
use Rattle.member_crew.specs.Crews.{CrewInRounds, members_so_far}
use Rattle.member_crew.proofs.CrewLaws.{so_far_count, turned_at}
use Rattle.member_crew.proofs.crew.Crew.turn.Goals as goal

pub unreachable-requires : goal.unreachable-requires
unreachable-requires g c =
    let all = so_far_count c.self.inside.members c.self.inside.ended in
    let there : c.args.number < length c.self.inside.members = omega (arith, c.requires, all, ap (λ (crew : CrewInRounds (MemberSoFar g.row.M.Denot) g.row.K.Denot). length crew.members) c.self.view_is) in
    let never = c.in_default.ensures.variant.1 there in cc (never)

pub returns-clause-turn : goal.returns-clause-turn
returns-clause-turn g c =
    let turns = g.M.TakesTurns.turns in
    let members = c.self.inside.members in
    let ended = c.self.inside.ended in
    let member = c.in-Some.member.now in
    let all = so_far_count members ended in
    let there : c.args.number < length members = omega (arith, c.requires, all, ap (λ (crew : CrewInRounds (MemberSoFar g.row.M.Denot) g.row.K.Denot). length crew.members) c.self.view_is) in
    let noted : c.args.number < length ended = omega (arith, there, c.self.told, c.self.invariant.1) in
    subst (λ (seen : CrewInRounds (MemberSoFar g.row.M.Denot) g.row.K.Denot). TurnsAt (TurnsOn turns) c.args.number seen.members (members_so_far (slice_set members c.args.number c.turn_on.new.member) (slice_set ended c.args.number c.turn_on.new.ended)) c.turn_on.result) c.self.view_is
    (turned_at turns members ended c.args.number member c.turn_on.new.member _ c.turn_on.new.ended _ (slice_get_read members (length members) c.args.number member refl there c.in-Some.ensures.entry.1) (slice_get-get_or ended c.args.number _ noted) c.turn_on.ensures)
