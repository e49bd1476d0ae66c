use Rattle.std.proofs.Common.{◌≡◌, ◌++◌, List, ℕ, Option, Some, None, ap, ◌∙◌, refl}
use Rattle.daq_io.specs.Seen.{Stored, stored_as}
use Rattle.daq_mem.proofs.SlotLemmas.{file_put, no_file_put, stored_in-fresh, own_name, ChangesNothing-ChangesOnly, distinct_gone, distinct_put, sized_kept}
use Rattle.daq_mem.proofs.slots.Slots.store.Goals as goal

pub returns-then-put-clause-others : goal.returns-then-put-clause-others
returns-then-put-clause-others c = file_put _ c.in-Some.place c.index_mut-slot.result.now _ _ c.in-Some.ensures.inside c.index_mut-slot.ensures.value
    (ap (λ slot. slot.name) c.index_mut-slot.ensures.value ∙ c.in-Some.ensures.free _) refl

pub returns-then-put-clause-stored : goal.returns-then-put-clause-stored
returns-then-put-clause-stored c =
    let bytes : c.put.new.self.bytes ≡ c.args.bytes.now = ap (λ room. room.bytes) c.if-put.ensures.put ∙ ap (λ room. room.bytes ++ c.args.bytes.now) c.clear.ensures in
    let file : List ℕ → Option Stored = λ bs. Some (stored_as c.args.state bs) in
    stored_in-fresh _ c.in-Some.place _ c.args.name.now c.in-Some.ensures.inside c.requires (own_name c.args.name.now) ∙ ap file bytes

pub returns-else-put-clause-others : goal.returns-else-put-clause-others
returns-else-put-clause-others c =
    let free : c.index_mut-slot.result.now.name ≡ None = ap (λ slot. slot.name) c.index_mut-slot.ensures.value ∙ c.in-Some.ensures.free _ in
    ChangesNothing-ChangesOnly _ (no_file_put _ c.in-Some.place c.index_mut-slot.result.now _ c.in-Some.ensures.inside c.index_mut-slot.ensures.value free free)

pub returns-else-put-clause-kept : goal.returns-else-put-clause-kept
returns-else-put-clause-kept c =
    let free : c.index_mut-slot.result.now.name ≡ None = ap (λ slot. slot.name) c.index_mut-slot.ensures.value ∙ c.in-Some.ensures.free _ in
    no_file_put _ c.in-Some.place c.index_mut-slot.result.now _ c.in-Some.ensures.inside c.index_mut-slot.ensures.value free free

pub invariant_of-self : goal.invariant_of-self
invariant_of-self c =
    let free : c.index_mut-slot.result.now.name ≡ None = ap (λ slot. slot.name) c.index_mut-slot.ensures.value ∙ c.in-Some.ensures.free _ in
    let room : c.put.new.self.room ≡ c.index_mut-slot.result.now.bytes.room = ap (λ room. room.room) c.if-put.ensures.put ∙ ap (λ room. room.room) c.clear.ensures in record {
      sized = sized_kept _ c.in-Some.place _ c.index_mut-slot.result.now _ c.in-Some.ensures.inside c.index_mut-slot.ensures.value room c.args.self.now.sized;
      distinct = distinct_put _ c.in-Some.place c.index_mut-slot.result.now _ _ c.in-Some.ensures.inside c.index_mut-slot.ensures.value free refl c.requires c.args.self.now.distinct;
    }

pub invariant_of-self-else-put : goal.invariant_of-self-else-put
invariant_of-self-else-put c =
    let free : c.index_mut-slot.result.now.name ≡ None = ap (λ slot. slot.name) c.index_mut-slot.ensures.value ∙ c.in-Some.ensures.free _ in
    let room : c.put.new.self.room ≡ c.index_mut-slot.result.now.bytes.room = ap (λ room. room.room) c.if-put.ensures.kept ∙ ap (λ room. room.room) c.clear.ensures in record {
      sized = sized_kept _ c.in-Some.place _ c.index_mut-slot.result.now _ c.in-Some.ensures.inside c.index_mut-slot.ensures.value room c.args.self.now.sized;
      distinct = distinct_gone _ c.in-Some.place c.index_mut-slot.result.now _ c.in-Some.ensures.inside c.index_mut-slot.ensures.value free c.args.self.now.distinct;
    }
