use Rattle.std.proofs.Common.{map, refl}
use Rattle.event_report.specs.EventBanks.{integer_banks}
use Rattle.event_report.specs.Tallies.{own, id_row, bank_number, bank_row}
use Rattle.event_report.specs.Steps.{id_of, row_number}
use Rattle.event_report.specs.Reports.{report_of}
use Rattle.event_report.proofs.Ordered.{rising_rows}
use Rattle.event_report.proofs.laws.rows_in_order.Goals as goal

pub returns : goal.returns
unfolding report_of
returns c =
    record {
      ids = λ events. rising_rows own id_of (id_row (map (λ e. e.id) events)) (λ a. refl) (map (λ e. e.id) events);
      banks = λ events. rising_rows bank_number row_number (bank_row (integer_banks events)) (λ a. refl) (integer_banks events);
    }
