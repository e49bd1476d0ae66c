use Rattle.std.specs.Prelude.{◌++◌, ◌∷◌, [], ℕ, List}
use Rattle.std.specs.List.{AllByRecursion}
use Rattle.std.proofs.Common.{ap, sym, subst, ◌∙◌}
use Rattle.event_report.specs.Reports.{Totals}
use Rattle.event_report.specs.Reports.{IsBlank}
use Rattle.session_runs.specs.RunEntries.{blank_reports}
use Rattle.session_runs.proofs.Lists.{all_blank, blanks_next}
use Rattle.session_runs.proofs.making.blank_reports.Goals as goal

pub loop-place-preserved : goal.loop-place-preserved
loop-place-preserved c =
    let place : ℕ = c.loop-place._place in
    c.in_ok-try_push.ensures.pushed
    ∙ (ap (λ (l : List Totals). l ++ c.in_ok-report.report ∷ []) c.loop-place.invariant
    ∙ (ap (λ (r : Totals). blank_reports place ++ r ∷ []) c.in_ok-report.ensures.report ∙ blanks_next place))

pub returns-clause-blank : goal.returns-clause-blank
returns-clause-blank c = subst (AllByRecursion IsBlank) (sym c.loop-place.invariant) (all_blank c.loop-place._place)
