use Rattle.std.specs.Prelude.{◌≢◌, ◌+◌, ◌++◌, List, Option}
use Rattle.std.specs.Option.{option_to_list}
use Rattle.std.proofs.Common.{ap, sym, ◌∙◌, arith}
use Rattle.session_runs.specs.declared.records.ReportTally.{ReportTally}
use Rattle.session_runs.specs.ToldTallies.{reports_told}
use Rattle.session_runs.proofs.Lists.{reports_next}
use Rattle.session_runs.proofs.tallied.take_reports.Goals as goal

pub loop-place-preserved : goal.loop-place-preserved
loop-place-preserved c =
    let first = c.args.first in
    let tallies = c.args.tallies.now in
    let at = c.loop-place in
    let so_far = at.invariant in
    record {
      so_far = c.take_report.ensures.taken
          ∙ (ap (λ (l : List ReportTally). l ++ option_to_list c.report_told-report.result) so_far.so_far
          ∙ (ap (λ (o : Option ReportTally). reports_told first at.place tallies ++ option_to_list o) (c.report_told-report.ensures.told ∙ so_far.left (first + at.place) (omega arith))
          ∙ sym (reports_next first at.place tallies)));
      few = omega (arith, c.take_report.ensures.one, so_far.few);
      left = λ other above.
          let differs : other ≢ first + at.place = λ is. absurd (omega (arith, is, above)) in
          c.report_told-report.ensures.others other differs ∙ so_far.left other (omega (arith, above));
    }
