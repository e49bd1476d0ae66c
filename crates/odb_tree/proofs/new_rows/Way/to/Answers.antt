use Rattle.std.proofs.Common.{◌≤◌, ◌+◌, ◌^◌, Option, sym, subst, length, arith}
use Rattle.std.specs.Option.{option_copied}
use Rattle.odb_tree.specs.declared.rows.Row.{Row}
use Rattle.odb_tree.specs.Making.{Way, missing_at}
use Rattle.odb_tree.proofs.Along.{IsGone, gone_fits, gone_more}
use Rattle.odb_tree.proofs.new_rows.Way.to.Goals as goal

pub further-requires-clause-fits : goal.further-requires-clause-fits
further-requires-clause-fits c =
    subst (λ (o : Option Row). c.args.next + length c.loop-i.way.dirs + missing_at o ≤ 2 ^ 32) (sym c.row_at.ensures)
    (gone_fits c.args.rows.now c.args.next c.args.names.now c.loop-i.i c.loop-i.way (omega arith) c.loop-i.invariant c.requires.fits)

pub loop-i-preserved : goal.loop-i-preserved
loop-i-preserved c =
    subst (λ (w : Way). IsGone c.args.rows.now c.args.next c.args.names.now (c.loop-i.i + 1) w) (sym c.in_ok-further.ensures)
    (gone_more c.args.rows.now c.args.next c.args.names.now c.index-names-i.result c.loop-i.i c.loop-i.way (option_copied c.row_at.result) (omega arith) c.index-names-i.is c.row_at.ensures c.loop-i.invariant)
