use Rattle.std.specs.Prelude.{length}
use Rattle.std.proofs.Common.{ap, arith}
use Rattle.member_crew.specs.Turns.{MemberSoFar}
use Rattle.member_crew.specs.Crews.{CrewInRounds}
use Rattle.member_crew.proofs.CrewLaws.{so_far_count}
use Rattle.member_crew.proofs.crew.Crew.count.Goals as goal

pub returns-clause-count : goal.returns-clause-count
returns-clause-count g c =
    let all = so_far_count c.self.inside.members c.self.inside.ended in
    omega (arith, c.len.ensures, all, ap (λ (crew : CrewInRounds (MemberSoFar g.row.M.Denot) g.row.K.Denot). length crew.members) c.self.view_is)
