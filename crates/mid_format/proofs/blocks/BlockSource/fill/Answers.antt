use Rattle.std.proofs.Common.{◌≡◌, ◌∙◌, ℕ, ◌-◌, ◌<◌, List, ◌++◌, length, take, drop, slice_range, refl, ap, sym, subst, arith}
use Rattle.std.proofs.lemmas.List.{append-nil, drop_all, take_all}
use Rattle.std.specs.Io.KnownBytes.{Consumes}
use Rattle.mid_format.proofs.blocks.BlockSource.fill.Goals as goal

-- a block that was handed out whole is what was written into it
filled : (into items : List ℕ) (n : ℕ) → n ≡ length items → length into ≡ length items → take n (into ++ drop (length into) items) ≡ into
filled into items n long same =
    ap (λ (rest : List ℕ). take n (into ++ rest)) (drop_all (length into) items (omega (arith, same))) ∙ (ap (take n) (append-nil into) ∙ take_all n into (omega (arith, long, same)))

front_of : (block into : List ℕ) (count : ℕ) → block ≡ into → slice_range block 0 count ≡ take count into
front_of block into count same = ap (λ (b : List ℕ). slice_range b 0 count) same ∙ ap (λ (n : ℕ). take n into) {x = count - 0} {y = count} (omega arith)

pub invariant_of-self : goal.invariant_of-self
invariant_of-self g c =
    let block = ap (length {A = ℕ}) (filled c.read.new.into c.self.inside.block.items c.self.inside.block.len c.self.inside.block.ok.0 (c.read.auto.into ∙ ap (length {A = ℕ}) c.as_mut_slice.ensures.value)) in
    let some : 0 < length c.self.inside.block.items = c.self.invariant.2 in
    (omega arith, omega (arith, block, c.in-Ok.ensures.within.0), omega (arith, block, some, c.read.auto.into, ap (length {A = ℕ}) c.as_mut_slice.ensures.value))

pub returns-in-Ok-clause-read : goal.returns-in-Ok-clause-read
returns-in-Ok-clause-read g c =
    let block = filled c.read.new.into c.self.inside.block.items c.self.inside.block.len c.self.inside.block.ok.0 (c.read.auto.into ∙ ap (length {A = ℕ}) c.as_mut_slice.ensures.value) in
    rw (← c.self.view_is) (subst (Consumes (g.S.Source.told c.self.inside.source).left (g.S.Source.told c.read.new.self).left) (sym (front_of _ c.read.new.into c.in-Ok.count block)) c.in-Ok.ensures.bytes.0)

pub returns-in-Ok-clause-end : goal.returns-in-Ok-clause-end
returns-in-Ok-clause-end g c = λ none.
    let block = filled c.read.new.into c.self.inside.block.items c.self.inside.block.len c.self.inside.block.ok.0 (c.read.auto.into ∙ ap (length {A = ℕ}) c.as_mut_slice.ensures.value) in
    let some : 0 < length c.self.inside.block.items = c.self.invariant.2 in
    c.in-Ok.ensures.bytes.1 (omega (arith, c.in-Ok.ensures.within.1, ap (length {A = ℕ}) (sym (front_of _ c.read.new.into c.in-Ok.count block) ∙ none)))
    (omega (arith, some, c.read.auto.into, ap (length {A = ℕ}) c.as_mut_slice.ensures.value))

pub returns-in-Ok-clause-faults : goal.returns-in-Ok-clause-faults
returns-in-Ok-clause-faults g c = rw (← c.self.view_is) (record { later = c.in-Ok.ensures.faults.later; done = c.in-Ok.ensures.faults.done; failed = tt })

pub returns-in-Err-clause-failed : goal.returns-in-Err-clause-failed
returns-in-Err-clause-failed g c = rw (← c.self.view_is) c.in-Err.ensures.bytes

pub returns-in-Err-clause-none : goal.returns-in-Err-clause-none
returns-in-Err-clause-none g c = refl

pub returns-in-Err-clause-faults : goal.returns-in-Err-clause-faults
returns-in-Err-clause-faults g c = rw (← c.self.view_is) (record { later = c.in-Err.ensures.faults.later; done = tt; failed = c.in-Err.ensures.faults.failed })
