use Rattle.std.proofs.Common.{◌≡◌, ◌∙◌, length, refl, arith}
use Rattle.event_builder.specs.Inputs.{StopsInput}
use Rattle.event_builder.proofs.Stepped.{none_yet, each_more}
use Rattle.event_builder.proofs.asking.stop_all.Goals as goal

pub loop-number-init : goal.loop-number-init
loop-number-init g c = record { so_far = none_yet StopsInput _; many = refl }

pub stop_at-requires : goal.stop_at-requires
stop_at-requires g c = record {
  input = omega (arith, c.loop-number-test.true, c.len-number-end.ensures, c.loop-number.invariant.so_far.inputs_many);
  port = omega (arith, c.loop-number-test.true, c.len-number-end.ensures, c.requires.ports, c.loop-number.invariant.many);
}

pub loop-number-preserved : goal.loop-number-preserved
loop-number-preserved g c = record {
  so_far = each_more StopsInput c.loop-number.number _ _ _ c.loop-number.invariant.so_far c.stop_at.ensures.stops;
  many = c.stop_at.ensures.many ∙ c.loop-number.invariant.many;
}

pub returns : goal.returns
returns g c =
    let end : c.loop-number.number ≡ length c.args.inputs.now = omega (arith, c.loop-number-test.false, c.len-number-end.ensures) in
    rw (← end) c.loop-number.invariant.so_far
