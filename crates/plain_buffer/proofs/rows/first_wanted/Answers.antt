use Rattle.std.proofs.Common.{arith, sym, ◌∙◌}
use Rattle.plain_buffer.proofs.RowLaws.{no_row, searched_here, searched_next}
use Rattle.plain_buffer.proofs.rows.first_wanted.Goals as goal

pub returns-then-wants-clause-some : goal.returns-then-wants-clause-some
returns-then-wants-clause-some c =
    searched_here c.args.client.now c.args.first c.args.rows.now c.args.bytes.now c.loop-index.index c.loop-index.rest.now c.split_at.result.0.now no_row (omega arith) c.loop-index.invariant
    (sym c.wants.ensures ∙ c.if-wants.true) c.split_at.ensures.front

pub loop-index-preserved : goal.loop-index-preserved
loop-index-preserved c =
    searched_next c.args.client.now c.args.first c.args.rows.now c.args.bytes.now c.loop-index.index c.loop-index.rest.now c.split_at.result.1.now no_row (omega arith) c.loop-index.invariant
    (sym c.wants.ensures ∙ c.if-wants.false) c.split_at.ensures.back c.split_at.ensures.back_len
