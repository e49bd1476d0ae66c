use Rattle.std.proofs.Common.{◌≡◌, true, ap, ◌∙◌, refl}
use Rattle.daq_mem.specs.MemSeen.{has_name}
use Rattle.daq_mem.proofs.SlotLemmas.{distinct_gone, gone_changes_only, gone_for_good, gone_is_free, sized_kept}
use Rattle.daq_mem.proofs.slots.Slots.remove.Goals as goal

pub invariant_of-self : goal.invariant_of-self
invariant_of-self c = record {
  sized = sized_kept _ c.in-Some.place _ c.index_mut-slot.result.now _ c.in-Some.ensures.found.inside c.index_mut-slot.ensures.value refl c.args.self.now.sized;
  distinct = distinct_gone _ c.in-Some.place c.index_mut-slot.result.now _ c.in-Some.ensures.found.inside c.index_mut-slot.ensures.value refl c.args.self.now.distinct;
}

pub returns-in-Some-clause-others : goal.returns-in-Some-clause-others
returns-in-Some-clause-others c = gone_changes_only _ _ _ c.index_mut-slot.result.now _ c.in-Some.ensures.found c.index_mut-slot.ensures.value refl

pub returns-in-Some-clause-gone : goal.returns-in-Some-clause-gone
returns-in-Some-clause-gone c =
    let named : has_name c.args.name.now c.index_mut-slot.result.now.name ≡ true = ap (λ slot. has_name c.args.name.now slot.name) c.index_mut-slot.ensures.value ∙ c.in-Some.ensures.found.named _ in
    gone_for_good _ c.in-Some.place c.index_mut-slot.result.now _ _ c.in-Some.ensures.found.inside c.index_mut-slot.ensures.value named refl c.args.self.now.distinct

pub returns-in-Some-clause-free : goal.returns-in-Some-clause-free
returns-in-Some-clause-free c = gone_is_free _ _ _ c.index_mut-slot.result.now _ c.in-Some.ensures.found c.index_mut-slot.ensures.value refl
