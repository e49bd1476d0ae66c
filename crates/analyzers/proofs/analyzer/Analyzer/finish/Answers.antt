use Rattle.std.proofs.Common.{◌≡◌, rules, subst}
use Rattle.std.specs.Prelude.{Option, Some, None}
use Rattle.member_model.specs.RunEngines.{Answer}
use Rattle.transitions.specs.declared.answers.Answer.TheVariants.{Yes}
use Rattle.transitions.specs.declared.answers.Tally.TheVariants.{Report}
use Rattle.member_model.specs.Turns.{latest_answered}
use Rattle.analyzers.specs.AnalyzerTurns.{report_answer, run_reported}
use Rattle.analyzers.specs.AnalyzerKept.{AnalyzerStands, AnalyzerTells}
use Rattle.analyzers.proofs.AskSteps.{finish_stands}
use Rattle.analyzers.proofs.TellSteps.{finish_tells}
use Rattle.analyzers.proofs.analyzer.Analyzer.finish.Goals as goal

pub returns-clause-keeps : goal.returns-clause-keeps
returns-clause-keeps c = λ own got turns stands.
    let told : report_answer c.self.inside.run ≡ Some (Yes (Report c.in_ok-run.run'.report)) = search rules in
    let gone : c.take.new.self ≡ None = search rules in
    rw gone
    (subst (λ (a : Option Answer). AnalyzerStands c.self.inside.wanted c.self.inside.client (run_reported c.self.inside.run a) own got (latest_answered turns a)) told
    (finish_stands c.self.inside.wanted c.self.inside.client c.self.inside.run own got turns (rw (← c.self.view_is) at stands)))

pub returns-clause-tells : goal.returns-clause-tells
returns-clause-tells c = λ own got turns stands tells.
    let told : report_answer c.self.inside.run ≡ Some (Yes (Report c.in_ok-run.run'.report)) = search rules in
    let gone : c.take.new.self ≡ None = search rules in
    let standing = rw (← c.self.view_is) at stands in
    rw gone
    (subst (λ (a : Option Answer). AnalyzerTells (run_reported c.self.inside.run a) (latest_answered turns a)) told
    (finish_tells c.self.inside.wanted c.self.inside.client c.self.inside.run own got turns standing.holds (rw (← c.self.view_is) at tells)))
