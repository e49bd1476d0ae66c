use Rattle.std.proofs.Common.{arith, sym, ◌∙◌}
use Rattle.plain_buffer.proofs.RowLaws.{no_row, owed_here, owed_next}
use Rattle.plain_buffer.proofs.rows.first_owed.Goals as goal

pub returns-in-Some : goal.returns-in-Some
returns-in-Some c =
    sym (c.loop-index.invariant ∙ owed_here c.args.clients.now c.args.first c.args.rows.now c.loop-index.index c.in-Some.client no_row (omega arith) (sym c.owed.ensures ∙ c.in-Some.is))

pub loop-index-preserved : goal.loop-index-preserved
loop-index-preserved c =
    c.loop-index.invariant ∙ owed_next c.args.clients.now c.args.first c.args.rows.now c.loop-index.index no_row (omega arith) (sym c.owed.ensures ∙ c.in_default.is)
