use Rattle.std.proofs.Common.{◌≡◌, ◌∙◌, ap, sym, ℕ, length, arith}
use Rattle.std.specs.Vec.{with_items}
use Rattle.odb_script.proofs.reading.LineReader.fill.Goals as goal

pub invariant_of-self : goal.invariant_of-self
invariant_of-self g c =
    let kept = c.self.invariant in
    let block = c.self.inside.block in
    let all_kept : length (with_items block c.read.new.into).items ≡ 65536 = sym (with_items block c.read.new.into).ok.0 ∙ block.ok.0 ∙ kept.block in
    record { passed = omega arith; filled = omega arith; block = all_kept; short = kept.short; room = kept.room; taken = kept.taken }

pub invariant_of-self-2 : goal.invariant_of-self-2
invariant_of-self-2 g c =
    let kept = c.self.invariant in
    let block = c.self.inside.block in
    let all_kept : length (with_items block c.read.new.into).items ≡ 65536 = sym (with_items block c.read.new.into).ok.0 ∙ block.ok.0 ∙ kept.block in
    let asked : length c.read.new.into ≡ 65536 = c.read.auto.into ∙ ap (length {A = ℕ}) c.as_mut_slice.ensures.value ∙ kept.block in
    record { passed = omega arith; filled = omega (arith, c.in_ok-count.ensures.within.0, asked, all_kept); block = all_kept; short = kept.short; room = kept.room; taken = kept.taken }
