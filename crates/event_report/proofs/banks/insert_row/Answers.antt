use Rattle.std.proofs.Common.{arith, ◌+◌, ℕ, sym, subst, ◌∙◌, List}
use Rattle.std.specs.Prelude.{All}
use Rattle.std.proofs.lemmas.List.Elements.{All-weaker}
use Rattle.event_report.specs.declared.rows.BankRow.{BankRow}
use Rattle.event_report.specs.Steps.{row_number, more_figures, bank_rows_after}
use Rattle.event_report.specs.Held.{FiguresWithin}
use Rattle.event_report.proofs.Sums.{within_more}
use Rattle.event_report.proofs.Rising.{takes_full, after_full, after_placed, table_insert, All-insert}
use Rattle.event_report.proofs.banks.insert_row.Goals as goal

pub returns-then-len-ge-ROW_LIMIT-clause-taken : goal.returns-then-len-ge-ROW_LIMIT-clause-taken
returns-then-len-ge-ROW_LIMIT-clause-taken c =
    sym (takes_full row_number (row_number c.args.bank) c.args.rows.now.items c.args.at c.requires.fits (omega (arith, c.requires.table.counted)))

pub returns-then-len-ge-ROW_LIMIT-clause-rows : goal.returns-then-len-ge-ROW_LIMIT-clause-rows
unfolding bank_rows_after
returns-then-len-ge-ROW_LIMIT-clause-rows c =
    after_full row_number (row_number c.args.bank) (more_figures c.args.bank.figures) c.args.bank c.args.rows.now.items c.args.at c.requires.fits (omega (arith, c.requires.table.counted))

pub returns-clause-rows : goal.returns-clause-rows
unfolding bank_rows_after
returns-clause-rows c =
    let table = c.requires.table in
    let ok = c.insert.ensures.succeeds (omega (arith, table.room)) in
    (rw ok at c.insert.ensures.items) ∙ after_placed row_number (more_figures c.args.bank.figures) c.args.bank c.args.rows.now.items c.args.at c.requires.fits (omega (arith, table.counted))

pub returns-clause-table : goal.returns-clause-table
returns-clause-table c =
    let table = c.requires.table in
    let ok = c.insert.ensures.succeeds (omega (arith, table.room)) in
    table_insert row_number c.args.rows.now c.insert.new.self c.args.at c.args.bank table c.requires.fits (omega arith) (rw ok at c.insert.ensures.items) (rw ok at c.insert.ensures.len) c.insert.ensures.capacity

pub returns-clause-within : goal.returns-clause-within
returns-clause-within c = λ m within.
    let bank : BankRow = c.args.bank in
    let rows : List BankRow = c.args.rows.now.items in
    let ok = c.insert.ensures.succeeds (omega (arith, c.requires.table.room)) in
    let n : ℕ = m + bank.figures.count in
    let weaker : All (λ (r : BankRow). FiguresWithin n r.figures) rows =
    All-weaker (λ (r : BankRow). FiguresWithin m r.figures) (λ (r : BankRow). FiguresWithin n r.figures) (λ r h. within_more m n r.figures (omega arith) h) rows within in
    subst (λ (xs : List BankRow). All (λ (r : BankRow). FiguresWithin n r.figures) xs) (sym (rw ok at c.insert.ensures.items))
    (All-insert (λ (r : BankRow). FiguresWithin n r.figures) rows c.args.at bank weaker (within_more bank.figures.count n bank.figures (omega arith) c.requires.bank))
