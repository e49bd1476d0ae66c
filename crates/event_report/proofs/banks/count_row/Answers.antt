use Rattle.std.proofs.Common.{arith, ◌≡◌, ◌+◌, ℕ, sym, ap, subst, ◌∙◌, List}
use Rattle.std.specs.Prelude.{All}
use Rattle.std.proofs.lemmas.List.{get_or_read}
use Rattle.std.proofs.lemmas.List.Elements.{All-weaker, All-set, All-get_or}
use Rattle.event_report.specs.declared.rows.BankRow.{BankRow}
use Rattle.event_report.specs.declared.rows.Figures.{Figures}
use Rattle.event_report.specs.Found.{IsRowAt}
use Rattle.event_report.specs.Steps.{row_number, more_figures, bank_rows_after}
use Rattle.event_report.specs.Held.{IsRising, FiguresWithin}
use Rattle.event_report.proofs.Sums.{within_more}
use Rattle.event_report.proofs.Rising.{after_found, takes_found, table_set}
use Rattle.event_report.proofs.banks.count_row.Goals as goal

pub find_row-requires : goal.find_row-requires
find_row-requires c = subst (λ (rows : List BankRow). IsRising row_number rows) (sym c.deref.ensures.value) c.requires.table.rising

found : (rows slice : List BankRow) (n m at : ℕ) → slice ≡ rows → n ≡ m → IsRowAt row_number n slice at → IsRowAt row_number m rows at
found rows slice n m at e f stands = subst (λ (k : ℕ). IsRowAt row_number k rows at) f (subst (λ (xs : List BankRow). IsRowAt row_number n xs at) e stands)

abbrev with_figures : BankRow → Figures → BankRow
with_figures r f = record { name = r.name; kind = r.kind; figures = f }

pub returns-in-Ok-clause-taken : goal.returns-in-Ok-clause-taken
returns-in-Ok-clause-taken c =
    let rows : List BankRow = c.args.rows.now.items in
    let stands = found rows c.deref.result.now c.order_number.result (row_number c.args.bank) c.in-Ok.at c.deref.ensures.value c.order_number.ensures c.in-Ok.ensures in
    sym (takes_found row_number (row_number c.args.bank) rows c.in-Ok.at stands)

pub returns-in-Ok-clause-rows : goal.returns-in-Ok-clause-rows
unfolding bank_rows_after
returns-in-Ok-clause-rows c =
    let bank : BankRow = c.args.bank in
    let rows : List BankRow = c.args.rows.now.items in
    let row : BankRow = c.index_mut-row.result.now in
    let stands = found rows c.deref.result.now c.order_number.result (row_number bank) c.in-Ok.at c.deref.ensures.value c.order_number.ensures c.in-Ok.ensures in
    after_found row_number (row_number bank) (more_figures bank.figures) bank rows c.in-Ok.at (with_figures row c.join-row.result) row c.requires.table.rising stands
    (ap (with_figures row) c.join-row.ensures.joined ∙ ap (more_figures bank.figures) c.index_mut-row.ensures.value)

pub returns-in-Ok-clause-table : goal.returns-in-Ok-clause-table
returns-in-Ok-clause-table c =
    let rows : List BankRow = c.args.rows.now.items in
    let row : BankRow = c.index_mut-row.result.now in
    let stands = found rows c.deref.result.now c.order_number.result (row_number c.args.bank) c.in-Ok.at c.deref.ensures.value c.order_number.ensures c.in-Ok.ensures in
    let read = get_or_read rows c.in-Ok.at row stands.below c.index_mut-row.ensures.value in
    table_set row_number c.args.rows.now c.in-Ok.at (with_figures row c.join-row.result) c.requires.table stands.below (λ d. ap row_number (read d))

pub returns-in-Ok-clause-within : goal.returns-in-Ok-clause-within
returns-in-Ok-clause-within c = λ m within.
    let bank : BankRow = c.args.bank in
    let rows : List BankRow = c.args.rows.now.items in
    let row : BankRow = c.index_mut-row.result.now in
    let stands = found rows c.deref.result.now c.order_number.result (row_number bank) c.in-Ok.at c.deref.ensures.value c.order_number.ensures c.in-Ok.ensures in
    let n : ℕ = m + bank.figures.count in
    let old : FiguresWithin m row.figures =
    subst (λ (r : BankRow). FiguresWithin m r.figures) (sym c.index_mut-row.ensures.value) (All-get_or (λ (r : BankRow). FiguresWithin m r.figures) rows c.in-Ok.at row stands.below within) in
    let weaker : All (λ (r : BankRow). FiguresWithin n r.figures) rows =
    All-weaker (λ (r : BankRow). FiguresWithin m r.figures) (λ (r : BankRow). FiguresWithin n r.figures) (λ r h. within_more m n r.figures (omega arith) h) rows within in
    All-set (λ (r : BankRow). FiguresWithin n r.figures) rows c.in-Ok.at (with_figures row c.join-row.result)
    (within_more (row.figures.count + bank.figures.count) n c.join-row.result (omega (arith, old.count)) c.join-row.ensures.within) weaker
