use Rattle.std.proofs.Common.{◌≡◌, Some, true, false, rules}
use Rattle.std.specs.Prelude.{slice_get, is_some}
use Rattle.event_builder.proofs.Stepped.{lent_at}
use Rattle.event_builder.proofs.Faulted.{IsGood, alone_meets, alone_good, held_joins, joined_meets, none_joined}
use Rattle.event_builder.proofs.faults.fault_held.Goals as goal

pub returns-then-is_some-clause-meets : goal.returns-then-is_some-clause-meets
returns-then-is_some-clause-meets c =
    let some : is_some c.fault_alone-fault.result ≡ true = search rules in
    record {
      input = c.index-inputs-input.result;
      there = lent_at c.args.inputs.now c.args.input c.index-inputs-input.result c.requires.there c.index-inputs-input.is;
      fault_is = alone_meets c.args.input c.args.k c.index-inputs-input.result.event.event c.args.limit c.args.inputs.now c.fault_alone-fault.result some c.fault_alone-fault.ensures.fault;
    }

pub returns-then-is_some-clause-joined : goal.returns-then-is_some-clause-joined
returns-then-is_some-clause-joined c =
    let some : is_some c.fault_alone-fault.result ≡ true = search rules in
    none_joined c.fault_alone-fault.result _ some

pub join_held-requires-clause-joins : goal.join_held-requires-clause-joins
join_held-requires-clause-joins c =
    let none : is_some c.fault_alone-fault.result ≡ false = search rules in
    let good : IsGood c.args.k c.index-inputs-input.result.event.event = alone_good c.args.k c.index-inputs-input.result.event.event c.fault_alone-fault.result none c.fault_alone-fault.ensures.none in
    let there : slice_get c.args.inputs.now c.args.input ≡ Some c.index-inputs-input.result = lent_at c.args.inputs.now c.args.input c.index-inputs-input.result c.requires.there c.index-inputs-input.is in
    held_joins c.args.input c.args.k c.index-inputs-input.result c.args.inputs.now there good c.requires.others

pub returns-clause-meets : goal.returns-clause-meets
returns-clause-meets c =
    let none : is_some c.fault_alone-fault.result ≡ false = search rules in
    let good : IsGood c.args.k c.index-inputs-input.result.event.event = alone_good c.args.k c.index-inputs-input.result.event.event c.fault_alone-fault.result none c.fault_alone-fault.ensures.none in
    record {
      input = c.index-inputs-input.result;
      there = lent_at c.args.inputs.now c.args.input c.index-inputs-input.result c.requires.there c.index-inputs-input.is;
      fault_is = joined_meets c.args.input c.args.k c.args.limit c.index-inputs-input.result.event.event c.args.inputs.now c.join_held.new.body c.join_held.result good c.join_held.ensures.none c.join_held.ensures.too_big;
    }
