use Rattle.member_crew.specs.Turns.{TurnsOn}
use Rattle.member_crew.proofs.CrewLaws.{rounds_kept}
use Rattle.member_crew.proofs.laws.rounds_keep.Goals as goal

pub returns : goal.returns
returns g c = rounds_kept (TurnsOn g.M.TakesTurns.turns) g.K.Pick.told
