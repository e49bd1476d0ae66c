use Rattle.std.proofs.Common.{◌≡◌, length, refl, sym, ◌∙◌, arith}
use Rattle.loggers.proofs.InTurns.{turn_more}
use Rattle.loggers.proofs.starting.open_all.Goals as goal

pub loop-number-init : goal.loop-number-init
loop-number-init g c = record {
  opens = refl;
  ready = c.requires.ready;
  count = refl;
  idle = λ n d least there. c.requires.idle n d there;
  many = refl;
}

pub open_at-requires-clause-idle : goal.open_at-requires-clause-idle
open_at-requires-clause-idle g c = λ d there. c.loop-number.invariant.idle c.loop-number.number d (omega arith) there

pub loop-number-preserved : goal.loop-number-preserved
loop-number-preserved g c =
    record {
      opens = turn_more _ c.loop-number.number _ _ _ c.loop-number.invariant.opens c.in-Ok.ensures.opens;
      ready = c.open_at.ensures.ready;
      count = c.open_at.ensures.count ∙ c.loop-number.invariant.count;
      idle = λ n d least there. c.loop-number.invariant.idle n d (omega (arith, least))
          (sym (c.open_at.ensures.others.at n (λ same. absurd (omega (arith, same, least)))) ∙ there);
      many = c.open_at.ensures.others.many ∙ c.loop-number.invariant.many;
    }

pub returns-in-Err-clause-refuses : goal.returns-in-Err-clause-refuses
returns-in-Err-clause-refuses g c =
    let refused = c.in-Err.ensures.refuses in
    record {
      number = c.loop-number.number;
      channel = refused.0;
      opened = _;
      there = refused.1;
      opens = c.loop-number.invariant.opens;
      refuses = refused.2;
    }

pub returns-clause-opens : goal.returns-clause-opens
returns-clause-opens g c =
    let end : c.loop-number.number ≡ length c.args.slots.now = omega (arith, c.loop-number-test.false, c.len-number-end.ensures) in
    rw (← end) c.loop-number.invariant.opens

pub returns-in-Err-clause-count : goal.returns-in-Err-clause-count
returns-in-Err-clause-count g c = c.open_at.ensures.count ∙ c.loop-number.invariant.count

pub returns-clause-count : goal.returns-clause-count
returns-clause-count g c = c.loop-number.invariant.count
