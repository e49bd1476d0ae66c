use Rattle.std.proofs.Common.{ap, List}
use Rattle.std.proofs.lemmas.List.{get_or_read}
use Rattle.event_report.specs.declared.rows.IdRow.{IdRow}
use Rattle.event_report.specs.Found.{IsRowAt}
use Rattle.event_report.specs.Steps.{id_of, one_more, id_rows_after}
use Rattle.event_report.proofs.Rising.{after_found, table_set}
use Rattle.event_report.proofs.ids.count_id.Goals as goal

pub returns-in-Ok-clause-rows : goal.returns-in-Ok-clause-rows
unfolding id_rows_after
returns-in-Ok-clause-rows c =
    let rows : List IdRow = c.args.rows.now.items in
    let stands : IsRowAt id_of c.args.id rows c.in-Ok.at = rw (← c.deref.ensures.value) c.in-Ok.ensures in
    after_found id_of c.args.id one_more _ rows c.in-Ok.at _ c.index_mut.result.now c.requires.table.rising stands (ap one_more c.index_mut.ensures.value)

pub returns-in-Ok-clause-table : goal.returns-in-Ok-clause-table
returns-in-Ok-clause-table c =
    let rows : List IdRow = c.args.rows.now.items in
    let stands : IsRowAt id_of c.args.id rows c.in-Ok.at = rw (← c.deref.ensures.value) c.in-Ok.ensures in
    let read = get_or_read rows c.in-Ok.at c.index_mut.result.now stands.below c.index_mut.ensures.value in
    table_set id_of c.args.rows.now c.in-Ok.at _ c.requires.table stands.below (λ d. ap id_of (read d))
