use Rattle.std.proofs.Common.{◌≡◌, ◌<◌, [], length, nat_eq, sym, ◌∙◌, arith}
use Rattle.std.specs.Cmp.Lexicographic.{pointwise, bytes_decides}
use Rattle.std.proofs.lemmas.Bool.Decides.{nat_tests}
use Rattle.std.proofs.lemmas.List.{get_or_read, take_more_same}
use Rattle.odb_arena.proofs.Leading.{not_dir}
use Rattle.odb_arena.proofs.reaching.is_spelled.Goals as goal

pub loop-i-preserved : goal.loop-i-preserved
loop-i-preserved c =
    let within : c.loop-i.i < length c.args.b.now = grind (arith, nat_tests, c.loop-i-test.true, c.if-a-b.false) in
    let bytes : c.as_slice.result.now ≡ c.as_slice-in-loop-i.result.now =
    (bytes_decides c.as_slice.result.now c.as_slice-in-loop-i.result.now).0 (not_dir (pointwise nat_eq c.as_slice.result.now c.as_slice-in-loop-i.result.now) (sym c.if-ne.false ∙ c.ne.ensures)) in
    let same : c.index-a-i.result ≡ c.index-b-i.result = sym c.as_slice.ensures.bytes ∙ (bytes ∙ c.as_slice-in-loop-i.ensures.bytes) in
    take_more_same c.args.a.now c.args.b.now c.loop-i.i [] c.loop-i-test.true within c.loop-i.invariant
    (sym (get_or_read c.args.a.now c.loop-i.i c.index-a-i.result c.loop-i-test.true c.index-a-i.is []) ∙ (same ∙ get_or_read c.args.b.now c.loop-i.i c.index-b-i.result within c.index-b-i.is []))
