use Rattle.std.proofs.Common.{arith}
use Rattle.std.specs.Str.Lines.{lines}
use Rattle.odb_text.proofs.DumpItems.{more_skipped}
use Rattle.odb_text.proofs.skips.skip_items.Goals as goal

pub loop-index-preserved : goal.loop-index-preserved
loop-index-preserved c = (
  more_skipped (lines c.args.text.now) c.loop-index.index (lines c.loop-index.rest.now) (lines c.in-Some.behind.now) c.loop-index.invariant.0 c.in-Some.ensures.some,
  omega (arith, c.in-Some.ensures.shorter, c.loop-index.invariant.1),
)
