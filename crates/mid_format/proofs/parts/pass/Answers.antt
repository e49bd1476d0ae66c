use Rattle.std.proofs.Common.{◌∙◌, ℕ, Err, rules, refl, sym, subst, arith}
use Rattle.std.proofs.lemmas.Result.{err_from_is_err_and, IfOk-from_err}
use Rattle.event.specs.Pieces.{FailsBehind}
use Rattle.daq_io.specs.Counts.{CountsFault}
use Rattle.mid_format.proofs.PartsRead.{passed_none, passed_all, passed_more, passed_end, passed_fails}
use Rattle.mid_format.proofs.Failing.{on_err}
use Rattle.mid_format.proofs.parts.pass.Goals as goal

pub returns-then-count-part-clause-passes : goal.returns-then-count-part-clause-passes
returns-then-count-part-clause-passes g c =
    passed_end _ _ _ c.args.size c.loop-rest.rest c.min-part.result c.read_full.new.into c.in_ok-count.field-0 c.loop-rest.invariant.passed c.in_ok-count.ensures.gathers
    (search rules) (search rules) c.if-count-part.true

pub loop-rest-preserved : goal.loop-rest-preserved
loop-rest-preserved g c = record {
  passed = passed_more _ _ _ c.args.size c.loop-rest.rest c.read_full.new.into c.in_ok-count.field-0 _ c.loop-rest.invariant.passed c.in_ok-count.ensures.gathers (search rules);
  faults = c.in_ok-count.ensures.faults.done ∙ c.loop-rest.invariant.faults;
  origin = search rules;
  block = search rules;
}

pub returns-in_err-count-clause-fails : goal.returns-in_err-count-clause-fails
returns-in_err-count-clause-fails g c =
    on_err _ _ (passed_fails _ _ _ _ c.args.size c.loop-rest.rest c.min-part.result c.loop-rest.invariant.passed
    (subst (λ n. FailsBehind (g.S.Source.told c.loop-rest.source).left (g.S.Source.told c.read_full.new.source).left (g.S.Source.told c.read_full.new.source).at_hand n) (search rules) c.in_err-count.ensures.fails) (search rules))

pub loop-rest-init : goal.loop-rest-init
loop-rest-init g c = record { passed = passed_none (g.S.Source.told c.args.source.now).left c.args.size; faults = refl; origin = refl; block = refl }

pub returns-in_err-count-clause-passes : goal.returns-in_err-count-clause-passes
returns-in_err-count-clause-passes g c = IfOk-from_err c.from_residual.result _ c.from_residual.ensures.0

pub returns-in_err-count-clause-faults : goal.returns-in_err-count-clause-faults
returns-in_err-count-clause-faults g c =
    let p = err_from_is_err_and c.from_residual.result c.from_residual.ensures.1 in
    subst (λ r. CountsFault (g.S.Source.told c.args.source.now).faults (g.S.Source.told c.read_full.new.source).faults r) (sym p.1)
    (subst (λ (n : ℕ). CountsFault {T = ℕ} n (g.S.Source.told c.read_full.new.source).faults (Err p.0)) c.loop-rest.invariant.faults
    (record { later = c.in_err-count.ensures.faults.later; done = tt; failed = c.in_err-count.ensures.faults.failed }))

pub returns-then-count-part-clause-faults : goal.returns-then-count-part-clause-faults
returns-then-count-part-clause-faults g c =
    let same = c.in_ok-count.ensures.faults.done ∙ c.loop-rest.invariant.faults in
    record { later = omega (arith, same); done = same; failed = tt }

pub returns-clause-passes : goal.returns-clause-passes
returns-clause-passes g c =
    passed_all (g.S.Source.told c.args.source.now).left (g.S.Source.told c.loop-rest.source).left c.args.size c.loop-rest.rest c.loop-rest.invariant.passed (omega (arith, c.loop-rest-test.false))
