use Rattle.std.proofs.Common.{◌≡◌, ◌∙◌, length, map, refl, arith}
use Rattle.event_builder.specs.Inputs.{AsksInput, RefusesInput, inputs_at}
use Rattle.event_builder.proofs.Stepped.{none_yet, each_more, as_many}
use Rattle.event_builder.proofs.asking.ask_first.Goals as goal

pub loop-number-init : goal.loop-number-init
loop-number-init g c = record { so_far = none_yet AsksInput _; many = refl }

pub ask_at-requires : goal.ask_at-requires
ask_at-requires g c = record {
  input = omega (arith, c.loop-number-test.true, c.len-number-end.ensures, c.loop-number.invariant.so_far.inputs_many);
  port = omega (arith, c.loop-number-test.true, c.len-number-end.ensures, c.requires.ports, c.loop-number.invariant.many);
}

pub loop-number-preserved : goal.loop-number-preserved
loop-number-preserved g c = record {
  so_far = each_more AsksInput c.loop-number.number _ _ _ c.loop-number.invariant.so_far c.in-Ok.ensures.asks;
  many = c.ask_at.ensures.many ∙ c.loop-number.invariant.many;
}

pub returns-in-Err-clause-refuses : goal.returns-in-Err-clause-refuses
returns-in-Err-clause-refuses g c = (
  inputs_at c.loop-number.inputs (map g.P.BufferPort.access c.loop-number.ports),
  omega (arith, c.loop-number-test.true, c.len-number-end.ensures),
  c.loop-number.invariant.so_far,
  c.in-Err.ensures.refuses,
)

pub returns-in-Err-clause-inputs_many : goal.returns-in-Err-clause-inputs_many
returns-in-Err-clause-inputs_many g c = as_many RefusesInput c.loop-number.number _ _ c.in-Err.ensures.refuses ∙ c.loop-number.invariant.so_far.inputs_many

pub returns-in-Err-clause-ports_many : goal.returns-in-Err-clause-ports_many
returns-in-Err-clause-ports_many g c = c.ask_at.ensures.many ∙ c.loop-number.invariant.many

pub returns-clause-asks : goal.returns-clause-asks
returns-clause-asks g c =
    let end : c.loop-number.number ≡ length c.args.inputs.now = omega (arith, c.loop-number-test.false, c.len-number-end.ensures) in
    rw (← end) c.loop-number.invariant.so_far

pub returns-clause-inputs_many : goal.returns-clause-inputs_many
returns-clause-inputs_many g c = c.loop-number.invariant.so_far.inputs_many

pub returns-clause-ports_many : goal.returns-clause-ports_many
returns-clause-ports_many g c = c.loop-number.invariant.many
