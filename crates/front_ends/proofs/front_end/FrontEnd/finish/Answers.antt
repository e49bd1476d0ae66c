use Rattle.std.proofs.Common.{◌≡◌, rules, subst}
use Rattle.std.specs.Prelude.{Option, Some}
use Rattle.member_model.specs.RunEngines.{Answer}
use Rattle.member_model.specs.Turns.{latest_answered}
use Rattle.front_ends.specs.Fronts.{finish_answer, run_finished}
use Rattle.front_ends.specs.FrontKept.{FrontStands}
use Rattle.front_ends.proofs.FrontTurns.{finish_kept}
use Rattle.front_ends.proofs.FrontMoments.{finish_moments}
use Rattle.front_ends.proofs.front_end.FrontEnd.finish.Goals as goal

pub returns-clause-keeps : goal.returns-clause-keeps
returns-clause-keeps g c = λ own turns stands.
    let told : finish_answer c.self.inside.run ≡ Some c.told_of.result = search rules in
    subst (λ (a : Option Answer). FrontStands (g.X.Equipment.takes c.self.inside.equipment) (g.X.Equipment.makes c.self.inside.equipment) (run_finished c.self.inside.run a) own (latest_answered turns a)) told
    (finish_kept (g.X.Equipment.takes c.self.inside.equipment) (g.X.Equipment.makes c.self.inside.equipment) c.self.inside.run own turns (rw (← c.self.view_is) at stands))

pub returns-clause-moments : goal.returns-clause-moments
returns-clause-moments g c = λ own turns moments stands keeps.
    let told : finish_answer c.self.inside.run ≡ Some c.told_of.result = search rules in
    finish_moments (g.X.Equipment.takes c.self.inside.equipment) (g.X.Equipment.makes c.self.inside.equipment) c.self.inside.run own turns moments c.told_of.result told (rw (← c.self.view_is) at stands) keeps
