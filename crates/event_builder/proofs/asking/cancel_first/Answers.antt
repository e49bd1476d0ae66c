use Rattle.std.proofs.Common.{◌≡◌, ◌∙◌, refl, arith}
use Rattle.event_builder.specs.Inputs.{CancelsInput}
use Rattle.event_builder.proofs.Stepped.{none_yet, each_more}
use Rattle.event_builder.proofs.asking.cancel_first.Goals as goal

pub loop-number-init : goal.loop-number-init
loop-number-init g c = record { so_far = none_yet CancelsInput _; many = refl }

pub cancel_at-requires : goal.cancel_at-requires
cancel_at-requires g c = record {
  input = omega (arith, c.loop-number-test.true, c.requires.within, c.loop-number.invariant.so_far.inputs_many);
  port = omega (arith, c.loop-number-test.true, c.requires.within, c.requires.ports, c.loop-number.invariant.many);
}

pub loop-number-preserved : goal.loop-number-preserved
loop-number-preserved g c = record {
  so_far = each_more CancelsInput c.loop-number.number _ _ _ c.loop-number.invariant.so_far c.cancel_at.ensures.cancels;
  many = c.cancel_at.ensures.many ∙ c.loop-number.invariant.many;
}

pub returns : goal.returns
returns g c =
    let end : c.loop-number.number ≡ c.args.count = omega (arith, c.loop-number-test.false) in
    rw (← end) c.loop-number.invariant.so_far
