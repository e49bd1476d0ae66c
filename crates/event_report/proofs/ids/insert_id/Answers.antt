use Rattle.std.proofs.Common.{arith, sym, ◌∙◌}
use Rattle.event_report.specs.Steps.{id_of, one_more, id_rows_after}
use Rattle.event_report.proofs.Rising.{takes_full, after_full, after_placed, table_insert}
use Rattle.event_report.proofs.ids.insert_id.Goals as goal

pub returns-then-len-ge-ROW_LIMIT-clause-taken : goal.returns-then-len-ge-ROW_LIMIT-clause-taken
returns-then-len-ge-ROW_LIMIT-clause-taken c =
    sym (takes_full id_of c.args.id c.args.rows.now.items c.args.at c.requires.fits (omega (arith, c.requires.table.counted)))

pub returns-then-len-ge-ROW_LIMIT-clause-rows : goal.returns-then-len-ge-ROW_LIMIT-clause-rows
unfolding id_rows_after
returns-then-len-ge-ROW_LIMIT-clause-rows c =
    after_full id_of c.args.id one_more _ c.args.rows.now.items c.args.at c.requires.fits (omega (arith, c.requires.table.counted))

pub returns-clause-rows : goal.returns-clause-rows
unfolding id_rows_after
returns-clause-rows c =
    let table = c.requires.table in
    let ok = c.insert.ensures.succeeds (omega (arith, table.room)) in
    (rw ok at c.insert.ensures.items) ∙ after_placed id_of one_more _ c.args.rows.now.items c.args.at c.requires.fits (omega (arith, table.counted))

pub returns-clause-table : goal.returns-clause-table
returns-clause-table c =
    let table = c.requires.table in
    let ok = c.insert.ensures.succeeds (omega (arith, table.room)) in
    table_insert id_of c.args.rows.now c.insert.new.self c.args.at _ table c.requires.fits (omega arith) (rw ok at c.insert.ensures.items) (rw ok at c.insert.ensures.len) c.insert.ensures.capacity
