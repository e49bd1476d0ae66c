use Rattle.std.proofs.Common.{refl, arith}
use Rattle.event_builder.proofs.JoinedBanks.{CountedTo, NextBanks, next_banks, counted_none, counted_more, counted_all}
use Rattle.event_builder.proofs.joining.built_size.Goals as goal

pub loop-input-init : goal.loop-input-init
loop-input-init c = record { counted = counted_none c.args.inputs.now c.requires.joins.0 c.requires.joins.1; small = omega arith }

pub unreachable-requires : goal.unreachable-requires
unreachable-requires c =
    let to : CountedTo c.args.inputs.now c.loop-input.input-index c.loop-input.size = c.loop-input.invariant.counted in
    let next : NextBanks c.args.inputs.now c.loop-input.input-index c.input-item.result to.rest = next_banks c.args.inputs.now c.loop-input.input-index c.input-item.result to.rest (omega arith) c.input-item.is to.left in
    c.in_default.ensures.none next.bs next.holds

pub overflow_add-size : goal.overflow_add-size
overflow_add-size c = omega (arith, c.loop-input.invariant.small, c.in-Some.ensures.small, c.requires.few)

pub loop-input-preserved : goal.loop-input-preserved
loop-input-preserved c = record {
  counted = counted_more c.args.inputs.now c.loop-input.input-index c.loop-input.size c.in-Some.len _ c.input-item.result (omega arith) c.input-item.is c.in-Some.ensures.len refl c.loop-input.invariant.counted;
  small = omega (arith, c.loop-input.invariant.small, c.in-Some.ensures.small);
}

pub returns : goal.returns
returns c = counted_all c.args.inputs.now c.loop-input.input-index c.loop-input.size (omega arith) c.loop-input.invariant.counted
