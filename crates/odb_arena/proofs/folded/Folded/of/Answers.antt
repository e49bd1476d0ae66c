use Rattle.odb_arena.proofs.Padding.{fold_more}
use Rattle.std.proofs.Common.{◌≤◌, length, subst, sym, List, ℕ}
use Rattle.odb_arena.proofs.folded.Folded.of.Goals as goal

pub loop-i-preserved : goal.loop-i-preserved
loop-i-preserved c =
    fold_more c.loop-i.bytes c.as_slice-name.result.now c.loop-i.i c.to_ascii_lowercase.result c.loop-i-test.true
    (subst (λ (b : List ℕ). length b ≤ 31) (sym c.as_slice-name.ensures.bytes) c.as_slice-name.ensures.is_name.short) c.loop-i.invariant c.to_ascii_lowercase.ensures.value
