use Rattle.std.proofs.Common.{◌≡◌, ◌+◌, ℕ, length, ap, subst, refl}
use Rattle.std.specs.Prelude.{not, nat_lt}
use Rattle.daq_mem.proofs.Results.{on_true}
use Rattle.daq_mem.proofs.SlotLemmas.{distinct_kept, fits_is, named_changes_only, named_file, put_bytes, sized_at, sized_kept}
use Rattle.daq_mem.proofs.slots.Slots.append.Goals as goal

pub returns-in-Some-clause-others : goal.returns-in-Some-clause-others
returns-in-Some-clause-others c = named_changes_only _ _ _ c.index_mut-slot.result.now _ c.in-Some.ensures.found c.index_mut-slot.ensures.value refl

pub returns-in-Some-clause-written : goal.returns-in-Some-clause-written
returns-in-Some-clause-written c = on_true c.put.result (λ put so_far here. put_bytes _ _ _ c.index_mut-slot.result.now _ c.args.bytes.now so_far c.in-Some.ensures.found c.index_mut-slot.ensures.value refl (ap (λ room. room.bytes) put) refl here) c.put.ensures.put

pub invariant_of-self : goal.invariant_of-self
invariant_of-self c = record {
  sized = sized_kept _ c.in-Some.place _ c.index_mut-slot.result.now _ c.in-Some.ensures.found.inside c.index_mut-slot.ensures.value c.put.ensures.room c.args.self.now.sized;
  distinct = distinct_kept _ c.in-Some.place c.index_mut-slot.result.now _ c.in-Some.ensures.found.inside c.index_mut-slot.ensures.value refl c.args.self.now.distinct;
}

pub returns-in-Some-clause-fits : goal.returns-in-Some-clause-fits
returns-in-Some-clause-fits c =
    let room : c.index_mut-slot.result.now.bytes.room ≡ c.args.self.now.room = sized_at _ c.in-Some.place _ c.index_mut-slot.result.now c.in-Some.ensures.found.inside c.index_mut-slot.ensures.value c.args.self.now.sized in
    rw (named_file _ _ c.in-Some.place c.index_mut-slot.result.now c.in-Some.ensures.found c.index_mut-slot.ensures.value)
    (subst (λ (room : ℕ). c.put.result ≡ not (nat_lt room (length c.index_mut-slot.result.now.bytes.bytes + length c.args.bytes.now))) room (fits_is _ _ _ c.put.ensures.fits))
