use Rattle.std.proofs.Common.{ap, ◌∙◌, arith}
use Rattle.odb_tree.specs.Making.{missing_at}
use Rattle.odb_tree.proofs.Along.{counted_more}
use Rattle.odb_tree.proofs.new_rows.count_missing.Goals as goal

pub loop-i-preserved : goal.loop-i-preserved
loop-i-preserved c =
    counted_more c.args.rows.now c.args.names.now c.loop-i.i c.loop-i.count c.missing_at-count.result (omega arith) c.loop-i.invariant
    (c.missing_at-count.ensures.missing ∙ ap missing_at c.row_at.ensures) c.missing_at-count.ensures.one
