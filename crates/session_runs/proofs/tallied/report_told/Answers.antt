use Rattle.std.specs.Prelude.{◌≡◌, ◌≤◌, List, Option, None, IfNone, length}
use Rattle.std.proofs.Common.{ap, sym, subst, ◌∙◌, arith}
use Rattle.std.proofs.lemmas.List.{at_drop_all}
use Rattle.member_model.specs.RunEngines.{ClientTally}
use Rattle.session_runs.specs.declared.records.ReportTally.{ReportTally}
use Rattle.session_runs.specs.ToldTallies.{report_told}
use Rattle.session_runs.proofs.Lists.{no_report, report_found, report_further}
use Rattle.session_runs.proofs.tallied.report_told.Goals as goal

pub report_at-requires : goal.report_at-requires
report_at-requires c = omega (arith, c.loop-place-test.true, c.len-place-end.ensures, ap (λ (l : List ClientTally). length l) c.loop-place.invariant.same)

pub loop-place-preserved : goal.loop-place-preserved
loop-place-preserved c =
    let at = c.loop-place in
    let told = c.report_at.ensures.told in
    let none : c.report_at.result ≡ None = no_report c.report_at.result c.in_default.not-Some in
    record {
      same = subst (λ (o : Option ReportTally). IfNone o (c.report_at.new.tallies ≡ at.tallies)) none c.report_at.ensures.same ∙ at.invariant.same;
      so_far = report_further c.args.client c.args.tallies.now at.tallies at.place told.0 c.report_at.result at.invariant.same at.invariant.so_far told.1 told.2 none;
    }

pub returns-in-Some-clause-told : goal.returns-in-Some-clause-told
returns-in-Some-clause-told c =
    let at = c.loop-place in
    let told = c.report_at.ensures.told in
    report_found c.args.client c.args.tallies.now at.tallies at.place told.0 c.report_at.result c.in-Some.report at.invariant.same at.invariant.so_far told.1 told.2 c.in-Some.is

pub returns-in-Some-clause-others : goal.returns-in-Some-clause-others
returns-in-Some-clause-others c = λ other differs. c.report_at.ensures.others other differs ∙ ap (report_told other) c.loop-place.invariant.same

pub returns-clause-told : goal.returns-clause-told
returns-clause-told c =
    let at = c.loop-place in
    let past : length c.args.tallies.now ≤ at.place = omega (arith, c.loop-place-test.false, c.len-place-end.ensures) in
    sym (at.invariant.so_far ∙ at_drop_all (report_told c.args.client) c.args.tallies.now at.place past)

pub returns-clause-others : goal.returns-clause-others
returns-clause-others c = λ other differs. ap (report_told other) c.loop-place.invariant.same
