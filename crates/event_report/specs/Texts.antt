-- The text of a report.
use Rattle.std.specs.Prelude.{◌≡◌, ℕ, List, [], ◌∷◌, ◌++◌, ◌&&◌, length, take, map, nat_le, codes, if◌then◌else◌}
use Rattle.std.specs.List.{flat_map}
use Rattle.std.specs.Fmt.{decimal, signed_decimal}
use Rattle.daq_types.specs.Tids.{tid_name}
use Rattle.event_report.specs.declared.rows.Figures.{Figures}
use Rattle.event_report.specs.declared.rows.IdRow.{IdRow}
use Rattle.event_report.specs.declared.rows.BankRow.{BankRow}
use Rattle.event_report.specs.Integers.{integer_tid}
use Rattle.event_report.specs.Reports.{Totals}

-- The text has the first one in front.
abbrev pub HasInFront : (first text : List ℕ) → Type 0
HasInFront first text = take (length first) text ≡ first

-- a byte of a bank's name as it is printed: a point where it is no visible character
abbrev pub visible : ℕ → ℕ
visible byte = if nat_le 33 byte && nat_le byte 126 then byte else 46

-- a line, with what stands before each line of the text
abbrev pub line : (start text : List ℕ) → List ℕ
line start text = start ++ (text ++ 10 ∷ [])

abbrev pub events_text : Totals → List ℕ
events_text t = codes "events " ++ decimal t.events

abbrev pub id_text : IdRow → List ℕ
id_text r = codes "id " ++ (decimal r.id ++ (codes " count " ++ decimal r.count))

abbrev pub kind_text : BankRow → List ℕ
kind_text r = codes "bank " ++ (map visible r.name ++ (codes " " ++ tid_name (integer_tid r.kind)))

abbrev pub figures_text : Figures → List ℕ
figures_text f =
    codes " count " ++ (decimal f.count ++ (codes " sum " ++ (signed_decimal f.sum
    ++ (codes " least " ++ (signed_decimal f.least ++ (codes " greatest " ++ signed_decimal f.greatest))))))

abbrev pub bank_text : BankRow → List ℕ
bank_text r = kind_text r ++ figures_text r.figures

abbrev pub rest_text : Totals → List ℕ
rest_text t = codes "rest ids " ++ (decimal t.ids.rest ++ (codes " banks " ++ (decimal t.banks.rest ++ (codes " bad " ++ decimal t.bad))))

-- The text of a report, each line with the same bytes before it: the events; a line for each id; a line for each name
-- and type of banks; what had no row.
unfoldable pub report_text : (start : List ℕ) → Totals → List ℕ
report_text start t =
    line start (events_text t)
    ++ (flat_map (λ r. line start (id_text r)) t.ids.rows
    ++ (flat_map (λ r. line start (bank_text r)) t.banks.rows
    ++ line start (rest_text t)))
