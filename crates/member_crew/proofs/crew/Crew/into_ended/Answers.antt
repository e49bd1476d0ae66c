use Rattle.std.specs.Prelude.{List}
use Rattle.std.specs.List.{AllZip}
use Rattle.std.proofs.Common.{ap, sym, subst}
use Rattle.member_crew.specs.Turns.{MemberSoFar}
use Rattle.member_crew.specs.Crews.{CrewInRounds}
use Rattle.member_crew.proofs.CrewLaws.{Ends, all_ended}
use Rattle.member_crew.proofs.crew.Crew.into_ended.Goals as goal

pub returns-clause-ends : goal.returns-clause-ends
returns-clause-ends g c =
    let turns = g.M.TakesTurns.turns in
    let ended = c.self.inside in
    all_ended turns c.args.self.members ended.members ended.ended
    (subst (λ (l : List (MemberSoFar g.row.M.Denot)). AllZip (Ends turns) c.args.self.members l) (ap (λ (crew : CrewInRounds (MemberSoFar g.row.M.Denot) g.row.K.Denot). crew.members) (sym c.self.view_is)) c.end_all.ensures.ends)
