use Rattle.std.proofs.Common.{refl}
use Rattle.daq_mem.proofs.SlotLemmas.{leave_file, distinct_kept, named_changes_only, sized_kept}
use Rattle.daq_mem.proofs.slots.Slots.leave.Goals as goal

pub returns-in-Some-clause-others : goal.returns-in-Some-clause-others
returns-in-Some-clause-others c = named_changes_only _ _ _ c.index_mut-slot.result.now _ c.in-Some.ensures.found c.index_mut-slot.ensures.value refl

pub returns-in-Some-clause-left : goal.returns-in-Some-clause-left
returns-in-Some-clause-left c = λ so_far here. leave_file _ _ _ c.index_mut-slot.result.now _ c.args.state so_far c.in-Some.ensures.found c.index_mut-slot.ensures.value refl refl refl here

pub invariant_of-self : goal.invariant_of-self
invariant_of-self c = record {
  sized = sized_kept _ c.in-Some.place _ c.index_mut-slot.result.now _ c.in-Some.ensures.found.inside c.index_mut-slot.ensures.value refl c.args.self.now.sized;
  distinct = distinct_kept _ c.in-Some.place c.index_mut-slot.result.now _ c.in-Some.ensures.found.inside c.index_mut-slot.ensures.value refl c.args.self.now.distinct;
}
