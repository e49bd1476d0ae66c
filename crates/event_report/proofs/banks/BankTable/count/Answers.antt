use Rattle.std.proofs.Common.{arith, ◌+◌, ◌≤◌, ℕ, List, length, sym, subst}
use Rattle.std.specs.Prelude.{All}
use Rattle.std.proofs.lemmas.List.Elements.{All-weaker}
use Rattle.event_report.specs.declared.rows.BankRow.{BankRow}
use Rattle.event_report.specs.Tallies.{BankTally}
use Rattle.event_report.specs.Held.{FiguresWithin, BanksWithin}
use Rattle.event_report.proofs.Sums.{within_more}
use Rattle.event_report.proofs.banks.BankTable.count.Goals as goal

more_rows : (m n : ℕ) (rows : List BankRow) → m ≤ n → All (λ (r : BankRow). FiguresWithin m r.figures) rows → All (λ (r : BankRow). FiguresWithin n r.figures) rows
more_rows m n rows le all =
    All-weaker (λ (r : BankRow). FiguresWithin m r.figures) (λ (r : BankRow). FiguresWithin n r.figures) (λ r h. within_more m n r.figures le h) rows all

pub returns-then-not-count_row-clause-within : goal.returns-then-not-count_row-clause-within
returns-then-not-count_row-clause-within c = λ m within.
    let before : BanksWithin m (record { rows = c.self.inside.rows.items; rest = c.self.inside.rest }) = subst (λ (t : BankTally). BanksWithin m t) (sym c.self.view_is) within in
    let read = c.in-Some-read_figures.ensures.within in
    record {
      rows = more_rows (m + c.in-Some-read_figures.figures.count) (m + (1 + length c.args.bank.now.body.now)) c.count_row.new.rows.items (omega (arith, read.count)) (c.count_row.ensures.within m before.rows);
      rest = omega (arith, before.rest);
    }

pub returns-else-not-count_row-clause-within : goal.returns-else-not-count_row-clause-within
returns-else-not-count_row-clause-within c = λ m within.
    let before : BanksWithin m (record { rows = c.self.inside.rows.items; rest = c.self.inside.rest }) = subst (λ (t : BankTally). BanksWithin m t) (sym c.self.view_is) within in
    let read = c.in-Some-read_figures.ensures.within in
    record {
      rows = more_rows (m + c.in-Some-read_figures.figures.count) (m + (1 + length c.args.bank.now.body.now)) c.count_row.new.rows.items (omega (arith, read.count)) (c.count_row.ensures.within m before.rows);
      rest = omega (arith, before.rest);
    }
